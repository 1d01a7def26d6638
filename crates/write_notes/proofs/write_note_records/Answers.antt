-- `write_notes::write_note_records` meets its contract: measure after measure.
use Prim.Native.Nat.{◌+◌, ◌-◌, ◌*◌}
use mathlib.Core.Path.{refl}
use native.Mathlib.Omega.{arith}
use Rattle.reader.specs.Records.{measure_width}
use Rattle.part_rows.specs.Encoded.{note_row_width}
use Rattle.write_notes.specs.Out.{notes_out}
use Rattle.write_notes.proofs.Written.{begin_rows, written_in, written_on_lem, written_none, written_all}
use Rattle.write_notes.proofs.Out.{notes_step, notes_none, total_first, total_more}
use Rattle.write_notes.proofs.write_note_records.Goals as goal

pub loop-measure-init : goal.loop-measure-init
loop-measure-init c =
    let p = c.args.part.now in
    let t = p.tables in
    (omega (arith, p.within.notes_in_lem, total_first p.store.now t.measures.at t.measures.count), refl, begin_rows _ (λ h n. notes_out p.store.now h t.notes.at n) measure_width t.measures.at t.measures.count)

pub slice_bounds-write_measure_notes-count : goal.slice_bounds-write_measure_notes-count
slice_bounds-write_measure_notes-count c = omega (arith, (written_in c.loop-measure.invariant.2).0)

pub slice_bounds-write_measure_notes-start : goal.slice_bounds-write_measure_notes-start
slice_bounds-write_measure_notes-start c = omega (arith, (written_in c.loop-measure.invariant.2).0)

pub note_count-k-requires : goal.note_count-k-requires
note_count-k-requires c = omega (arith, c.args.part.now.within.measures_in)

pub write_measure_notes-requires : goal.write_measure_notes-requires
write_measure_notes-requires c =
    let l = c.loop-measure in
    let p = c.args.part.now in
    let t = p.tables in
    omega (arith, l.invariant.0, total_more p.store.now t.measures.at t.measures.count l.measure c.loop-measure-test.true, c.note_count-k.ensures.0)

pub returns-in_err-at : goal.returns-in_err-at
returns-in_err-at c =
    let l = c.loop-measure in
    let p = c.args.part.now in
    let t = p.tables in
    rw c.from_residual.ensures
    (written_none l.invariant.2 c.in_err-at.ensures (notes_out p.store.now (t.measures.at + measure_width * (l.measure + 1)) (l.p + note_row_width * c.note_count-k.result) (t.measures.count - (l.measure + 1))) (notes_step _ _ _ _ _ _ c.loop-measure-test.true c.note_count-k.ensures.0))

pub overflow_add-at : goal.overflow_add-at
overflow_add-at c =
    let w = written_on_lem c.loop-measure.invariant.2 c.in_ok-at.ensures (notes_step _ _ _ _ _ _ c.loop-measure-test.true c.note_count-k.ensures.0) in
    omega (arith, w.wrote.says.1, c.well_formed)

pub overflow_mul-p : goal.overflow_mul-p
overflow_mul-p c =
    let l = c.loop-measure in
    let p = c.args.part.now in
    let t = p.tables in
    omega (arith, l.invariant.0, total_more p.store.now t.measures.at t.measures.count l.measure c.loop-measure-test.true, c.note_count-k.ensures.0, c.well_formed)

pub overflow_add-p : goal.overflow_add-p
overflow_add-p c =
    let l = c.loop-measure in
    let p = c.args.part.now in
    let t = p.tables in
    omega (arith, l.invariant.0, total_more p.store.now t.measures.at t.measures.count l.measure c.loop-measure-test.true, c.note_count-k.ensures.0, c.well_formed)

pub loop-measure-preserved : goal.loop-measure-preserved
loop-measure-preserved c =
    let l = c.loop-measure in
    let p = c.args.part.now in
    let t = p.tables in
    let w = written_on_lem l.invariant.2 c.in_ok-at.ensures (notes_step _ _ _ _ _ _ c.loop-measure-test.true c.note_count-k.ensures.0) in (
      omega (arith, l.invariant.0, total_more p.store.now t.measures.at t.measures.count l.measure c.loop-measure-test.true, c.note_count-k.ensures.0),
      (written_in w).1,
      w,
    )

pub returns : goal.returns
returns c = written_all c.loop-measure.invariant.2 (notes_none _ _ _ _ _ c.loop-measure-test.false)
