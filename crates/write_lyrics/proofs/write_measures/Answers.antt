-- `write_lyrics::write_measures` meets its contract: measure after measure.
use Prim.Native.Nat.{ℕ, ◌+◌, ◌-◌, ◌*◌}
use mathlib.Core.Path.{refl, sym, ap}
use mathlib.Core.Bool.{false}
use native.Mathlib.Omega.{arith}
use Rattle.reader.specs.Records.{measure_width}
use Rattle.part_rows.specs.Encoded.{note_row_width}
use Rattle.write_notes.proofs.Out.{total_first, total_more}
use Rattle.write_notes.proofs.Written.{begin_rows, written_in, written_as_lem, written_on_lem, written_none, written_all}
use Rattle.lyrics.specs.Sheet.{syllables_in}
use Rattle.write_lyrics.specs.Out.{sung_rows, measures_out}
use Rattle.write_lyrics.proofs.Out.{sung_low, sung_total_first, sung_total_step, sung_total_none, measures_step, measures_none}
use Rattle.write_lyrics.proofs.write_measures.Goals as goal

pub loop-measure-init : goal.loop-measure-init
loop-measure-init c =
    let a = c.args in
    let t = a.part.now.tables in (
      omega (arith, c.args.part.now.within.notes_in_lem, total_first a.part.now.store.now t.measures.at t.measures.count),
      omega arith,
      omega arith,
      omega (arith, sung_total_first a.part.now.store.now t.measures.at t.notes.at t.measures.count),
      refl,
      begin_rows _ (λ h n. measures_out false (syllables_in a.words.now.text.now a.words.now.store.now a.words.now.sheet) a.part.now.store.now 0 0 h t.notes.at n) measure_width t.measures.at t.measures.count,
    )

pub note_count-k-requires : goal.note_count-k-requires
note_count-k-requires c = omega (arith, c.args.part.now.within.measures_in)

pub slice_bounds-write_rows-count : goal.slice_bounds-write_rows-count
slice_bounds-write_rows-count c = omega (arith, (written_in c.loop-measure.invariant.5).0)

pub slice_bounds-write_rows-start : goal.slice_bounds-write_rows-start
slice_bounds-write_rows-start c = omega (arith, (written_in c.loop-measure.invariant.5).0)

pub write_rows-requires : goal.write_rows-requires
write_rows-requires c =
    let l = c.loop-measure in
    let v = l.invariant in
    let m = c.args.part.now.tables.measures in
    let t = total_more c.args.part.now.store.now m.at m.count l.measure c.loop-measure-test.true in
    let k = c.note_count-k.ensures.0 in
    let good = c.well_formed in
    (omega (arith, v.0, t, k), omega (arith, v.0, v.1, t, k, good), omega (arith, v.0, v.1, v.2, t, k, good))

-- no room for a measure
pub returns-in_err-passed : goal.returns-in_err-passed
returns-in_err-passed c =
    let l = c.loop-measure in
    let a = c.args in
    let t = a.part.now.tables in
    let k = c.note_count-k in
    let q = sung_rows a.part.now.store.now l.p k.result in
    rw c.from_residual.ensures
    (record {
      says = written_none l.invariant.5 c.in_err-passed.ensures.says (measures_out false (syllables_in a.words.now.text.now a.words.now.store.now a.words.now.sheet) a.part.now.store.now (l.i + k.result) (l.j + q) (t.measures.at + measure_width * (l.measure + 1)) (l.p + note_row_width * k.result) (t.measures.count - (l.measure + 1)))
          (measures_step _ _ _ _ _ _ _ _ _ _ q c.loop-measure-test.true k.ensures.0 refl);
    })

pub overflow_add-at : goal.overflow_add-at
overflow_add-at c =
    let w = written_on_lem c.loop-measure.invariant.5 c.in_ok-passed.ensures.says.0 (measures_step _ _ _ _ _ _ _ _ _ _ _ c.loop-measure-test.true c.note_count-k.ensures.0 refl) in
    omega (arith, w.wrote.says.1, c.well_formed)

pub overflow_add-i : goal.overflow_add-i
overflow_add-i c =
    let l = c.loop-measure in
    let m = c.args.part.now.tables.measures in
    omega (arith, l.invariant.0, l.invariant.1, total_more c.args.part.now.store.now m.at m.count l.measure c.loop-measure-test.true, c.note_count-k.ensures.0, c.well_formed)

pub overflow_mul-p : goal.overflow_mul-p
overflow_mul-p c =
    let l = c.loop-measure in
    let m = c.args.part.now.tables.measures in
    omega (arith, l.invariant.0, total_more c.args.part.now.store.now m.at m.count l.measure c.loop-measure-test.true, c.note_count-k.ensures.0, c.well_formed)

pub overflow_add-p : goal.overflow_add-p
overflow_add-p c =
    let l = c.loop-measure in
    let m = c.args.part.now.tables.measures in
    omega (arith, l.invariant.0, total_more c.args.part.now.store.now m.at m.count l.measure c.loop-measure-test.true, c.note_count-k.ensures.0, c.well_formed)

-- one written
pub loop-measure-preserved : goal.loop-measure-preserved
loop-measure-preserved c =
    let l = c.loop-measure in
    let v = l.invariant in
    let a = c.args in
    let t = a.part.now.tables in
    let more = c.loop-measure-test.true in
    let m = total_more a.part.now.store.now t.measures.at t.measures.count l.measure more in
    let k = c.note_count-k.ensures.0 in
    let (w, e) = c.in_ok-passed.ensures.says in
    let n = c.note_count-k.result in
    let g = written_on_lem v.5 w (measures_step _ _ _ _ _ _ _ _ _ _ _ more k refl) in (
      omega (arith, v.0, m, k),
      omega (arith, v.1),
      omega (arith, v.2, e, sung_low a.part.now.store.now l.p n),
      omega (arith, v.3, e, sung_total_step a.part.now.store.now t.measures.at l.p t.measures.count l.measure n more k),
      (written_in g).1,
      written_as_lem g (ap (λ (x : ℕ). measures_out false (syllables_in a.words.now.text.now a.words.now.store.now a.words.now.sheet) a.part.now.store.now (l.i + n) x (t.measures.at + measure_width * (l.measure + 1)) (l.p + note_row_width * n) (t.measures.count - (l.measure + 1))) (sym e)),
    )

pub returns : goal.returns
returns c =
    let l = c.loop-measure in
    let t = c.args.part.now.tables in
    record { says = (written_all l.invariant.5 (measures_none _ _ _ _ _ _ _ _ _ c.loop-measure-test.false), omega (arith, l.invariant.3, sung_total_none c.args.part.now.store.now (t.measures.at + measure_width * l.measure) l.p (t.measures.count - l.measure) (omega (arith, c.loop-measure-test.false)))) }
