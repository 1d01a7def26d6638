-- `write_notes::write_voice` meets its contract: what is left of the rows gives what is left of the records.
use Prim.Native.Nat.{◌+◌, ◌-◌, ◌*◌}
use mathlib.Core.Path.{refl, sym, ◌∙◌}
use native.Mathlib.Omega.{arith}
use Rattle.part_rows.specs.Encoded.{note_row_width}
use Rattle.write_notes.specs.Out.{voice_out}
use Rattle.write_notes.proofs.Written.{begin_rows, written_in, written_as_lem, written_on_lem, written_none, written_all}
use Rattle.write_notes.proofs.Out.{voice_yes, voice_no, voice_none}
use Rattle.write_notes.proofs.write_voice.Goals as goal
use Rattle.write_notes.proofs.write_voice.Goals.{then-is_of_voice+in_ok-at, else-is_of_voice}

pub loop-row-init : goal.loop-row-init
loop-row-init c = (refl, begin_rows _ (voice_out c.args.store.now c.args.voice) note_row_width c.args.place c.args.k)

pub slice_bounds-write_note-count : goal.slice_bounds-write_note-count
slice_bounds-write_note-count c = omega (arith, (written_in c.loop-row.invariant.1).0)

pub slice_bounds-write_note-start : goal.slice_bounds-write_note-start
slice_bounds-write_note-start c = omega (arith, (written_in c.loop-row.invariant.1).0)

-- no room for a row
pub returns-in_err-at : goal.returns-in_err-at
returns-in_err-at c =
    let l = c.loop-row in
    rw c.from_residual.ensures
    (written_none l.invariant.1 c.in_err-at.ensures (voice_out _ _ (c.args.place + note_row_width * (l.row + 1)) (c.args.k - (l.row + 1))) (voice_yes _ _ _ _ _ c.loop-row-test.true (sym c.is_of_voice.ensures ∙ c.if-is_of_voice.true)))

pub overflow_add-at : goal.overflow_add-at
overflow_add-at c =
    let w = written_on_lem c.loop-row.invariant.1 c.in_ok-at.ensures (voice_yes _ _ _ _ _ c.loop-row-test.true (sym c.is_of_voice.ensures ∙ c.if-is_of_voice.true)) in
    omega (arith, w.wrote.says.1, c.well_formed)

-- a row written, or one of another voice
pub loop-row-preserved : goal.loop-row-preserved
loop-row-preserved c =
    let v = c.loop-row.invariant in
    elim c.if-is_of_voice.branch [
      | then-is_of_voice+in_ok-at w ↦
          let x = written_on_lem v.1 w.in_ok-at.ensures (voice_yes _ _ _ _ _ c.loop-row-test.true (sym c.is_of_voice.ensures ∙ w.if-is_of_voice.true)) in
          rw (w.to-is, w.at-is) ((written_in x).1, x)
      | else-is_of_voice w ↦ rw (w.to-is, w.at-is) (v.0, written_as_lem v.1 (voice_no _ _ _ _ _ c.loop-row-test.true (sym c.is_of_voice.ensures ∙ w.if-is_of_voice.false)))
    ]

pub returns : goal.returns
returns c = written_all c.loop-row.invariant.1 (voice_none _ _ _ _ _ c.loop-row-test.false)
