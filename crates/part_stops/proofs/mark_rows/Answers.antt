-- `part_stops::mark_rows` meets its contract: the rows before row i are marked (`Marking`).
use native.Mathlib.Omega.{arith}
use native.Mathlib.Numerals.{unary_clauses}
use Rattle.part_stops.proofs.Forward.{marking_start, marking_length, marking_room, marking_next, marking_end}
use Rattle.part_stops.proofs.mark_rows.Goals as goal

pub loop-i-init : goal.loop-i-init
loop-i-init c =
    let a = c.args in
    simp unary_clauses (marking_start a.scratch.now a.stops a.place a.k a.m c.requires.0.low c.requires.1)

pub mark_row-q-requires : goal.mark_row-q-requires
mark_row-q-requires c =
    let a = c.args in
    let l = c.loop-i in
    (marking_room a.scratch.now a.stops a.place a.k a.m l.scratch l.q _ _ l.invariant (omega arith) c.requires.0, omega (arith, l.invariant.before))

pub loop-i-preserved : goal.loop-i-preserved
loop-i-preserved c =
    let a = c.args in
    let l = c.loop-i in
    marking_next a.scratch.now a.stops a.place a.k a.m l.scratch l.q _ _ l.invariant (omega arith) _ _ _ _ (omega arith) (omega arith) c.mark_row-q.ensures

pub shape_of-scratch : goal.shape_of-scratch
shape_of-scratch c =
    let a = c.args in
    let l = c.loop-i in
    marking_length a.scratch.now a.stops a.place a.k a.m l.scratch l.q _ _ l.invariant

pub returns : goal.returns
returns c =
    let a = c.args in
    let l = c.loop-i in
    marking_end a.scratch.now a.stops a.place a.k a.m l.scratch l.q _ _ l.invariant (omega arith)
