-- `part_stops::aim_stop` meets its contract: in each arm `k` is the kind that was read.
use mathlib.Core.Path.{refl, sym, ap, ◌∙◌}
use native.Mathlib.Omega.{arith}
use Rattle.lyric_stops.specs.declared.Stop.{Stop}
use Rattle.lyric_stops.proofs.Walks.{apart}
use Rattle.part_stops.proofs.Forward.{later_apart, later_first}
use Rattle.part_stops.proofs.Backward.{aimed_first, aimed_passed, aimed_later}
use Rattle.part_stops.proofs.aim_stop.Goals as goal

pub returns-in-First : goal.returns-in-First
returns-in-First c =
    let a = c.args in
    let p = c.requires in
    let k = ap (λ (x : Stop). x.kind) c.get_stop-x.ensures.0 in
    aimed_first a.scratch.now a.stops a.j a.a p.0 p.1 p.2 p.3 (sym k ∙ c.in-First.is)

pub overflow_sub-a : goal.overflow_sub-a
overflow_sub-a c = omega (arith, c.requires.3.taker_low)

pub returns-in-Passed : goal.returns-in-Passed
returns-in-Passed c =
    let a = c.args in
    let p = c.requires in
    let k = ap (λ (x : Stop). x.kind) c.get_stop-x.ensures.0 in
    let e = sym k ∙ c.in-Passed.is in
    aimed_passed a.scratch.now a.stops a.j a.a p.0 p.1 p.2 p.3 _ _ _ c.put_stop.ensures k (apart _ e) e refl

pub overflow_sub-a-in-Later : goal.overflow_sub-a-in-Later
overflow_sub-a-in-Later c = omega (arith, c.requires.3.first_low)

pub returns-in-Later : goal.returns-in-Later
returns-in-Later c =
    let a = c.args in
    let p = c.requires in
    let k = ap (λ (x : Stop). x.kind) c.get_stop-x.ensures.0 in
    let e = sym k ∙ c.in-Later.is in
    aimed_later a.scratch.now a.stops a.j a.a p.0 p.1 p.2 p.3 _ _ _ c.put_stop-in-Later.ensures k (λ f. later_first (sym e ∙ f)) (λ f. later_apart (sym e ∙ f)) refl
