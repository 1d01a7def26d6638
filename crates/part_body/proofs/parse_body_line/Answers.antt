-- `part_body::parse_body_line` meets its contract. The invariant: from where the line began to here, and what is left of the line does the rest.
use mathlib.Core.Path.{◌∙◌}
use native.Mathlib.Omega.{arith}
use Rattle.part_body.proofs.Lines.{rest_none, begun, line_simulates, going_start, going_ready, going_past, going_turn}
use Rattle.part_body.proofs.parse_body_line.Goals as goal

pub begin_line-x-requires : goal.begin_line-x-requires
begin_line-x-requires c = let p = c.requires in (rest_none p.0, p.1)

pub loop-at-init : goal.loop-at-init
loop-at-init c = going_start _ _ _ _ _

pub token_at-taken-requires : goal.token_at-taken-requires
token_at-taken-requires c = c.loop-at-test.true

pub on_token-deferred-requires : goal.on_token-deferred-requires
on_token-deferred-requires c =
    let a = c.args in
    let p = c.requires in
    going_ready _ (begun a.unit (a.top, a.bottom) c.begin_line-x.ensures.simulates p.0 p.1) c.loop-at.invariant c.loop-at-test.true _ c.token_at-taken.ensures.token

pub append_deferred-x-requires : goal.append_deferred-x-requires
append_deferred-x-requires c = c.on_token-deferred.ensures.able

pub loop-at-smaller : goal.loop-at-smaller
loop-at-smaller c =
    let a = c.args in
    let p = c.requires in
    let i = c.loop-at.invariant in
    let q = going_past _ (begun a.unit (a.top, a.bottom) c.begin_line-x.ensures.simulates p.0 p.1) i c.loop-at-test.true _ c.token_at-taken.ensures.token in
    omega (arith, q, c.loop-at-test.true)

pub loop-at-preserved : goal.loop-at-preserved
loop-at-preserved c =
    let a = c.args in
    let p = c.requires in
    going_turn _ (begun a.unit (a.top, a.bottom) c.begin_line-x.ensures.simulates p.0 p.1) c.loop-at.invariant c.loop-at-test.true _ c.token_at-taken.ensures.token _ _ (c.on_token-deferred.ensures.done _ _ c.append_deferred-x.ensures)

pub shape_of-store : goal.shape_of-store
shape_of-store c = c.loop-at.invariant.only.same_length ∙ c.begin_line-x.ensures.simulates.only.same_length

pub returns : goal.returns
returns c =
    let a = c.args in
    line_simulates a.unit (a.top, a.bottom) c.begin_line-x.ensures.simulates a.edition c.loop-at.invariant c.loop-at-test.false
