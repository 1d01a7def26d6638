-- `write_pitches::write_voice` meets its contract: what is left of the rows gives what is left of the pitches.
use Prim.Native.Nat.{◌+◌, ◌-◌, ◌*◌}
use mathlib.Core.Path.{refl, sym, ◌∙◌}
use native.Mathlib.Omega.{arith}
use Rattle.part_rows.specs.Encoded.{note_row_width}
use Rattle.write_notes.proofs.Written.{begin_rows, written_in, written_as_lem, written_on_lem, written_none, written_all}
use Rattle.write_pitches.specs.Out.{voice_out}
use Rattle.write_pitches.proofs.Out.{pitch_total_more, pitch_total_first, voice_yes, voice_no, voice_none}
use Rattle.write_pitches.proofs.write_voice.Goals as goal
use Rattle.write_pitches.proofs.write_voice.Goals.{then-is_of_voice+in_ok-at, else-is_of_voice}

pub loop-row-init : goal.loop-row-init
loop-row-init c =
    let a = c.args in
    (omega (arith, c.requires.1, pitch_total_first a.store.now a.place a.k), refl, begin_rows _ (λ p n. voice_out a.store.now a.voice p a.pitches n) note_row_width a.place a.k)

pub slice_bounds-write_run-count : goal.slice_bounds-write_run-count
slice_bounds-write_run-count c = omega (arith, (written_in c.loop-row.invariant.2).0)

pub slice_bounds-write_run-start : goal.slice_bounds-write_run-start
slice_bounds-write_run-start c = omega (arith, (written_in c.loop-row.invariant.2).0)

pub write_run-requires : goal.write_run-requires
write_run-requires c =
    let l = c.loop-row in
    let a = c.args in
    omega (arith, l.invariant.0, pitch_total_more a.store.now a.place a.k l.row c.loop-row-test.true, c.pitch_bytes-len.ensures)

-- no room for a row's pitches
pub returns-in_err-at : goal.returns-in_err-at
returns-in_err-at c =
    let l = c.loop-row in
    let a = c.args in
    rw c.from_residual.ensures
    (written_none l.invariant.2 c.in_err-at.ensures (voice_out _ _ (a.place + note_row_width * (l.row + 1)) (l.q + c.pitch_bytes-len.result) (a.k - (l.row + 1))) (voice_yes _ _ _ _ _ _ _ c.loop-row-test.true c.pitch_bytes-len.ensures.0 (sym c.is_of_voice.ensures ∙ c.if-is_of_voice.true)))

pub overflow_add-at : goal.overflow_add-at
overflow_add-at c =
    let w = written_on_lem c.loop-row.invariant.2 c.in_ok-at.ensures (voice_yes _ _ _ _ _ _ _ c.loop-row-test.true c.pitch_bytes-len.ensures.0 (sym c.is_of_voice.ensures ∙ c.if-is_of_voice.true)) in
    omega (arith, w.wrote.says.1, c.well_formed)

pub overflow_add-q : goal.overflow_add-q
overflow_add-q c =
    let l = c.loop-row in
    let a = c.args in
    omega (arith, l.invariant.0, pitch_total_more a.store.now a.place a.k l.row c.loop-row-test.true, c.pitch_bytes-len.ensures, c.well_formed)

-- they are written, or the row is of another voice
pub loop-row-preserved : goal.loop-row-preserved
loop-row-preserved c =
    let l = c.loop-row in
    let a = c.args in
    let v = l.invariant in
    let m = pitch_total_more a.store.now a.place a.k l.row c.loop-row-test.true in
    elim c.if-is_of_voice.branch [
      | then-is_of_voice+in_ok-at w ↦
          let x = written_on_lem v.2 w.in_ok-at.ensures (voice_yes _ _ _ _ _ _ _ c.loop-row-test.true c.pitch_bytes-len.ensures.0 (sym c.is_of_voice.ensures ∙ w.if-is_of_voice.true)) in
          rw (w.to-is, w.at-is) (omega (arith, v.0, m, c.pitch_bytes-len.ensures), (written_in x).1, x)
      | else-is_of_voice w ↦
          rw (w.to-is, w.at-is)
          (omega (arith, v.0, m, c.pitch_bytes-len.ensures), v.1, written_as_lem v.2 (voice_no _ _ _ _ _ _ _ c.loop-row-test.true c.pitch_bytes-len.ensures.0 (sym c.is_of_voice.ensures ∙ w.if-is_of_voice.false)))
    ]

pub returns : goal.returns
returns c = written_all c.loop-row.invariant.2 (voice_none _ _ _ _ _ _ c.loop-row-test.false)
