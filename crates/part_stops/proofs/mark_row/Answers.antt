-- `part_stops::mark_row` meets its contract.
use mathlib.Core.Path.{refl, sym, ◌∙◌}
use native.Mathlib.Omega.{arith}
use Rattle.part_stops.proofs.Fronts.{mark_quiet, mark_grace, mark_other}
use Rattle.part_stops.proofs.Forward.{mark_none, mark_passed}
use Rattle.part_stops.proofs.mark_row.Goals as goal

pub returns-then-not-is_sung : goal.returns-then-not-is_sung
returns-then-not-is_sung c =
    let a = c.args in
    let q = mark_quiet a.scratch.now a.m.begun a.place (sym c.is_sung.ensures ∙ c.if-not-is_sung.true) in
    rw (q.0, q.1) (mark_none a.scratch.now a.stops a.m c.requires.0.low, refl)

pub put_stop-requires : goal.put_stop-requires
put_stop-requires c =
    let a = c.args in
    let q = mark_grace a.scratch.now a.m.begun a.place (sym c.is_sung.ensures ∙ c.if-not-is_sung.false) (sym c.is_grace.ensures ∙ c.if-is_grace.true) in
    let p = rw q.0 at c.requires.0 in
    (p.inside, omega (arith, p.room))

pub returns-then-is_grace : goal.returns-then-is_grace
returns-then-is_grace c =
    let a = c.args in
    let q = mark_grace a.scratch.now a.m.begun a.place (sym c.is_sung.ensures ∙ c.if-not-is_sung.false) (sym c.is_grace.ensures ∙ c.if-is_grace.true) in
    rw (q.0, q.1) (mark_passed a.scratch.now _ a.stops a.m _ c.put_stop.ensures (rw q.0 at c.requires.0) refl refl, refl)

pub mark_taker-requires : goal.mark_taker-requires
mark_taker-requires c =
    let a = c.args in
    let q = mark_other a.scratch.now a.m.begun a.place (sym c.is_sung.ensures ∙ c.if-not-is_sung.false) (sym c.is_grace.ensures ∙ c.if-is_grace.false) in
    rw q.0 at c.requires.0

pub returns : goal.returns
returns c =
    let a = c.args in
    let q = mark_other a.scratch.now a.m.begun a.place (sym c.is_sung.ensures ∙ c.if-not-is_sung.false) (sym c.is_grace.ensures ∙ c.if-is_grace.false) in
    rw (q.0, q.1) c.mark_taker.ensures
