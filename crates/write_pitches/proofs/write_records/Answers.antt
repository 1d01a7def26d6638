-- `write_pitches::write_records` meets its contract: measure after measure.
use Prim.Native.Nat.{ℕ, ◌+◌, ◌-◌, ◌*◌}
use mathlib.Core.Path.{refl, ap, sym}
use native.Mathlib.Omega.{arith}
use Rattle.reader.specs.Records.{measure_width}
use Rattle.part_rows.specs.Encoded.{note_row_width, pitch_row_width}
use Rattle.part_measures.specs.Heads.{total}
use Rattle.write_notes.specs.Tables.{pitch_total}
use Rattle.write_notes.proofs.Written.{begin_rows, written_in, written_as_lem, written_on_lem, written_none, written_all}
use Rattle.write_notes.proofs.Out.{total_first, total_more}
use Rattle.write_pitches.specs.Out.{pitches_out}
use Rattle.write_pitches.proofs.Out.{pitch_total_split, pitches_step, pitches_none}
use Rattle.write_pitches.proofs.write_records.Goals as goal

pub loop-measure-init : goal.loop-measure-init
loop-measure-init c =
    let p = c.args.part.now in
    let i = p.within in
    let s = p.store.now in
    let t = p.tables in
    let e = total_first s t.measures.at t.measures.count in
    (rw e i.notes_in_lem, rw e i.pitches_in_lem, refl, begin_rows _ (λ h n. pitches_out s h t.notes.at t.pitches.at n) measure_width t.measures.at t.measures.count)

pub note_count-k-requires : goal.note_count-k-requires
note_count-k-requires c = omega (arith, c.args.part.now.within.measures_in)

pub pitches_end-end-requires : goal.pitches_end-end-requires
pitches_end-end-requires c =
    let l = c.loop-measure in
    let p = c.args.part.now in
    let s = p.store.now in
    let t = p.tables in
    let k = c.note_count-k in
    let m = total_more s t.measures.at t.measures.count l.measure c.loop-measure-test.true in
    let e = pitch_total_split s l.p (total s (t.measures.at + measure_width * l.measure) (t.measures.count - l.measure)) k.result (total s (t.measures.at + measure_width * (l.measure + 1)) (t.measures.count - (l.measure + 1))) (omega (arith, m, k.ensures.0)) in
    (omega (arith, l.invariant.0, m, k.ensures.0), omega (arith, l.invariant.1, e))

pub slice_bounds-write_measure-count : goal.slice_bounds-write_measure-count
slice_bounds-write_measure-count c = omega (arith, (written_in c.loop-measure.invariant.3).0)

pub slice_bounds-write_measure-start : goal.slice_bounds-write_measure-start
slice_bounds-write_measure-start c = omega (arith, (written_in c.loop-measure.invariant.3).0)

pub write_measure-requires : goal.write_measure-requires
write_measure-requires c =
    let l = c.loop-measure in
    let p = c.args.part.now in
    let s = p.store.now in
    let t = p.tables in
    let k = c.note_count-k in
    let m = total_more s t.measures.at t.measures.count l.measure c.loop-measure-test.true in
    let e = pitch_total_split s l.p (total s (t.measures.at + measure_width * l.measure) (t.measures.count - l.measure)) k.result (total s (t.measures.at + measure_width * (l.measure + 1)) (t.measures.count - (l.measure + 1))) (omega (arith, m, k.ensures.0)) in
    (omega (arith, l.invariant.0, m, k.ensures.0), omega (arith, l.invariant.1, e), c.pitches_end-end.ensures)

pub returns-in_err-at : goal.returns-in_err-at
returns-in_err-at c =
    let l = c.loop-measure in
    let p = c.args.part.now in
    let s = p.store.now in
    let t = p.tables in
    let k = c.note_count-k in
    rw c.from_residual.ensures
    (written_none l.invariant.3 c.in_err-at.ensures (pitches_out s (t.measures.at + measure_width * (l.measure + 1)) (l.p + note_row_width * k.result) (l.q + pitch_row_width * pitch_total s l.p k.result) (t.measures.count - (l.measure + 1))) (pitches_step _ _ _ _ _ _ _ c.loop-measure-test.true k.ensures.0))

pub overflow_add-at : goal.overflow_add-at
overflow_add-at c =
    let w = written_on_lem c.loop-measure.invariant.3 c.in_ok-at.ensures (pitches_step _ _ _ _ _ _ _ c.loop-measure-test.true c.note_count-k.ensures.0) in
    omega (arith, w.wrote.says.1, c.well_formed)

pub overflow_mul-p : goal.overflow_mul-p
overflow_mul-p c =
    let l = c.loop-measure in
    let p = c.args.part.now in
    let t = p.tables in
    omega (arith, l.invariant.0, total_more p.store.now t.measures.at t.measures.count l.measure c.loop-measure-test.true, c.note_count-k.ensures.0, c.well_formed)

pub overflow_add-p : goal.overflow_add-p
overflow_add-p c =
    let l = c.loop-measure in
    let p = c.args.part.now in
    let t = p.tables in
    omega (arith, l.invariant.0, total_more p.store.now t.measures.at t.measures.count l.measure c.loop-measure-test.true, c.note_count-k.ensures.0, c.well_formed)

pub loop-measure-preserved : goal.loop-measure-preserved
loop-measure-preserved c =
    let l = c.loop-measure in
    let p = c.args.part.now in
    let s = p.store.now in
    let t = p.tables in
    let k = c.note_count-k in
    let m = total_more s t.measures.at t.measures.count l.measure c.loop-measure-test.true in
    let e = pitch_total_split s l.p (total s (t.measures.at + measure_width * l.measure) (t.measures.count - l.measure)) k.result (total s (t.measures.at + measure_width * (l.measure + 1)) (t.measures.count - (l.measure + 1))) (omega (arith, m, k.ensures.0)) in
    let w = written_on_lem l.invariant.3 c.in_ok-at.ensures (pitches_step _ _ _ _ _ _ _ c.loop-measure-test.true k.ensures.0) in (
      omega (arith, l.invariant.0, m, k.ensures.0),
      omega (arith, l.invariant.1, e, c.pitches_end-end.ensures),
      (written_in w).1,
      written_as_lem w (ap (λ (x : ℕ). pitches_out s (t.measures.at + measure_width * (l.measure + 1)) (l.p + note_row_width * k.result) x (t.measures.count - (l.measure + 1))) (sym c.pitches_end-end.ensures)),
    )

pub returns : goal.returns
returns c = written_all c.loop-measure.invariant.3 (pitches_none _ _ _ _ _ _ c.loop-measure-test.false)
