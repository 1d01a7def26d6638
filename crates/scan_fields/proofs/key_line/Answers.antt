-- `scan_fields::key_line` meets its contract.
use mathlib.Core.Path.{sym, ◌∙◌}
use Rattle.refusals.specs.declared.Refusal.{Refusal}
use Rattle.scan_states.proofs.Items.{by_kind, refused_kind}
use Rattle.scan_fields.proofs.FieldKinds.{high_key, refused_key, is_key}
use Rattle.scan_fields.proofs.key_line.Goals as goal

pub returns-then-has_high : goal.returns-then-has_high
returns-then-has_high c =
    let a = c.args in
    λ text. rw c.refuse.ensures (refused_kind _ Refusal.NotAscii _ (high_key _ a.line.now (sym c.has_high.ensures ∙ c.if-has_high.true)))

pub returns-in-Ok : goal.returns-in-Ok
returns-in-Ok c =
    let a = c.args in
    let k = rw c.in-Ok.is at c.read_key.ensures in
    λ text. by_kind _ _ _ (is_key _ a.line.now (sym c.has_high.ensures ∙ c.if-has_high.false) _ k.0 k.1) (c.set_key.ensures text)

pub returns-in-Err : goal.returns-in-Err
returns-in-Err c =
    let a = c.args in
    let k = rw c.in-Err.is at c.read_key.ensures in
    λ text. rw c.refuse-in-Err.ensures (refused_kind _ _ _ (refused_key _ a.line.now (sym c.has_high.ensures ∙ c.if-has_high.false) _ k))
