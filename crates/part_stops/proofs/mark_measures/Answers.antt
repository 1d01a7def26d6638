-- `part_stops::mark_measures` meets its contract: the notes of the measures before measure i are marked (`AllMarking`).
use native.Mathlib.Omega.{arith}
use native.Mathlib.Numerals.{unary_clauses}
use Rattle.part_stops.proofs.Forward.{all_start, rows_before, all_room, all_next, all_end}
use Rattle.part_stops.proofs.mark_measures.Goals as goal

pub loop-i-init : goal.loop-i-init
loop-i-init c =
    let a = c.args in
    simp unary_clauses (all_start a.scratch.now a.measures a.n a.notes a.stops c.requires)

pub note_count-k-requires : goal.note_count-k-requires
note_count-k-requires c =
    let l = c.loop-i in
    omega (arith, l.invariant.measures_before, l.invariant.only.same_length, c.requires.inside)

pub mark_rows-r-requires : goal.mark_rows-r-requires
mark_rows-r-requires c =
    let a = c.args in
    let l = c.loop-i in
    let k = c.note_count-k in (
      all_room a.scratch.now a.measures a.n a.notes a.stops c.requires l.scratch l.count l.last _ l.p _ l.invariant (omega arith) k.result k.ensures.0,
      rows_before a.scratch.now a.measures a.n a.notes a.stops c.requires l.scratch l.count l.last _ l.p _ l.invariant (omega arith) k.result k.ensures.0,
    )

pub overflow_mul-p : goal.overflow_mul-p
overflow_mul-p c = omega (arith, c.note_count-k.ensures.1)

pub overflow_add-p : goal.overflow_add-p
overflow_add-p c =
    let a = c.args in
    let l = c.loop-i in
    let k = c.note_count-k in
    omega (arith, rows_before a.scratch.now a.measures a.n a.notes a.stops c.requires l.scratch l.count l.last _ l.p _ l.invariant (omega arith) k.result k.ensures.0, c.requires.inside)

pub loop-i-preserved : goal.loop-i-preserved
loop-i-preserved c =
    let a = c.args in
    let l = c.loop-i in
    let k = c.note_count-k in
    all_next a.scratch.now a.measures a.n a.notes a.stops c.requires l.scratch l.count l.last _ l.p _ l.invariant (omega arith) k.result k.ensures.0 _ _ _ _ (omega arith) (omega arith) c.mark_rows-r.ensures

pub shape_of-scratch : goal.shape_of-scratch
shape_of-scratch c = c.loop-i.invariant.only.same_length

pub returns : goal.returns
returns c =
    let a = c.args in
    let l = c.loop-i in
    all_end a.scratch.now a.measures a.n a.notes a.stops c.requires l.scratch l.count l.last _ l.p _ l.invariant (omega arith)
