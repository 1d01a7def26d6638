-- `write_lyrics::write_rows` meets its contract: what is left of the rows gives what is left to write.
use Prim.Native.Nat.{◌+◌, ◌-◌, ◌*◌}
use mathlib.Core.Path.{refl, sym, ◌∙◌}
use mathlib.Core.Bool.{false}
use native.Mathlib.Omega.{arith}
use Rattle.part_rows.specs.Encoded.{note_row_width}
use Rattle.laws.proofs.Bools.{not_true, not_false}
use Rattle.write_notes.proofs.Written.{begin_rows, written_in, written_as_lem, written_on_lem, written_none, written_all}
use Rattle.lyrics.specs.Sheet.{syllables_in}
use Rattle.part_rows.proofs.Notes.{row_other, row_rest, row_sung}
use Rattle.write_lyrics.specs.Out.{rows_out}
use Rattle.write_lyrics.proofs.Out.{sung_first, sung_other, sung_one, sung_none, rows_other, rows_rest, rows_sung, rows_none}
use Rattle.write_lyrics.proofs.write_rows.Goals as goal

pub loop-row-init : goal.loop-row-init
loop-row-init c =
    let a = c.args in
    (omega arith, omega arith, omega (arith, sung_first a.store.now a.place a.k), refl, begin_rows _ (λ p n. rows_out false (syllables_in a.words.now.text.now a.words.now.store.now a.words.now.sheet) a.store.now a.note a.sung p n) note_row_width a.place a.k)

-- a row of another voice
pub loop-row-preserved-then-not-is_of_voice : goal.loop-row-preserved-then-not-is_of_voice
loop-row-preserved-then-not-is_of_voice c =
    let l = c.loop-row in
    let v = l.invariant in
    let a = c.args in
    let more = c.loop-row-test.true in
    let other = sym c.is_of_voice.ensures ∙ c.if-not-is_of_voice.true in (
      omega (arith, v.0),
      omega (arith, v.1),
      omega (arith, v.2, sung_other a.store.now a.place a.k l.row more (row_other a.store.now (a.place + note_row_width * l.row) other)),
      v.3,
      written_as_lem v.4 (rows_other _ _ _ _ _ _ _ _ more other),
    )

pub overflow_add-i : goal.overflow_add-i
overflow_add-i c = omega (arith, c.loop-row.invariant.0, c.loop-row-test.true, c.requires.1)

-- a rest
pub loop-row-preserved-then-is_rest : goal.loop-row-preserved-then-is_rest
loop-row-preserved-then-is_rest c =
    let l = c.loop-row in
    let v = l.invariant in
    let a = c.args in
    let more = c.loop-row-test.true in
    let silent = not_true _ (sym c.is_rest.ensures ∙ c.if-is_rest.true) in (
      omega (arith, v.0),
      omega (arith, v.1),
      omega (arith, v.2, sung_other a.store.now a.place a.k l.row more (row_rest a.store.now (a.place + note_row_width * l.row) silent)),
      v.3,
      written_as_lem v.4 (rows_rest _ _ _ _ _ _ _ _ more (sym c.is_of_voice.ensures ∙ c.if-not-is_of_voice.false) silent),
    )

pub slice_bounds-write_syllable_records-count : goal.slice_bounds-write_syllable_records-count
slice_bounds-write_syllable_records-count c = omega (arith, (written_in c.loop-row.invariant.4).0)

pub slice_bounds-write_syllable_records-start : goal.slice_bounds-write_syllable_records-start
slice_bounds-write_syllable_records-start c = omega (arith, (written_in c.loop-row.invariant.4).0)

-- no room for the syllables of a note
pub returns-in_err-at : goal.returns-in_err-at
returns-in_err-at c =
    let l = c.loop-row in
    let a = c.args in
    rw c.from_residual.ensures
    (record {
      says = written_none l.invariant.4 c.in_err-at.ensures (rows_out false (syllables_in a.words.now.text.now a.words.now.store.now a.words.now.sheet) a.store.now (l.i + 1) (l.j + 1) (a.place + note_row_width * (l.row + 1)) (a.k - (l.row + 1)))
          (rows_sung _ _ _ _ _ _ _ _ c.loop-row-test.true (sym c.is_of_voice.ensures ∙ c.if-not-is_of_voice.false) (not_false _ (sym c.is_rest.ensures ∙ c.if-is_rest.false)));
    })

pub overflow_add-at : goal.overflow_add-at
overflow_add-at c =
    let w = written_on_lem c.loop-row.invariant.4 c.in_ok-at.ensures (rows_sung _ _ _ _ _ _ _ _ c.loop-row-test.true (sym c.is_of_voice.ensures ∙ c.if-not-is_of_voice.false) (not_false _ (sym c.is_rest.ensures ∙ c.if-is_rest.false))) in
    omega (arith, w.wrote.says.1, c.well_formed)

pub overflow_add-i-in-loop-row : goal.overflow_add-i-in-loop-row
overflow_add-i-in-loop-row c = omega (arith, c.loop-row.invariant.0, c.loop-row-test.true, c.requires.1)

pub overflow_add-j : goal.overflow_add-j
overflow_add-j c = omega (arith, c.loop-row.invariant.1, c.loop-row-test.true, c.requires.2)

-- they are written
pub loop-row-preserved : goal.loop-row-preserved
loop-row-preserved c =
    let l = c.loop-row in
    let v = l.invariant in
    let a = c.args in
    let more = c.loop-row-test.true in
    let sounds = not_false _ (sym c.is_rest.ensures ∙ c.if-is_rest.false) in
    let w = written_on_lem v.4 c.in_ok-at.ensures (rows_sung _ _ _ _ _ _ _ _ more (sym c.is_of_voice.ensures ∙ c.if-not-is_of_voice.false) sounds) in (
      omega (arith, v.0),
      omega (arith, v.1),
      omega (arith, v.2, sung_one a.store.now a.place a.k l.row more (row_sung a.store.now (a.place + note_row_width * l.row) (sym c.is_of_voice.ensures ∙ c.if-not-is_of_voice.false) sounds)),
      (written_in w).1,
      w,
    )

pub returns : goal.returns
returns c =
    let l = c.loop-row in
    let a = c.args in
    record { says = (written_all l.invariant.4 (rows_none _ _ _ _ _ _ _ _ c.loop-row-test.false), omega (arith, l.invariant.2, sung_none a.store.now (a.place + note_row_width * l.row) (a.k - l.row) (omega (arith, c.loop-row-test.false)))) }
