-- `part_rhythm::beam_again` meets its contract.
use Prim.Native.Nat.{◌+◌, ◌*◌}
use Rattle.part_rhythm.proofs.Rhythm.{again_first, again_ends, again_plain}
use Rattle.part_rows.specs.Encoded.{note_row_width}
use Rattle.part_rhythm.proofs.beam_again.Goals as goal

pub returns-then-run-eq0 : goal.returns-then-run-eq0
returns-then-run-eq0 c =
    let a = c.args in
    again_first a.store.now (a.at + note_row_width * a.i) a.run a.kind a.value _ c.abc_note_is_beamable.ensures c.if-abc_note_is_beamable.true c.if-run-eq0.true

pub returns-then-abc_note_is_beamable : goal.returns-then-abc_note_is_beamable
returns-then-abc_note_is_beamable c =
    let a = c.args in
    again_ends a.store.now (a.at + note_row_width * a.i) a.run a.kind a.value _ c.abc_note_is_beamable.ensures c.if-abc_note_is_beamable.true c.if-run-eq0.false _ (rw c.from.ensures at c.set_note_beam.ensures)

pub returns : goal.returns
returns c =
    let a = c.args in
    again_plain a.store.now (a.at + note_row_width * a.i) a.run a.kind a.value _ c.abc_note_is_beamable.ensures c.if-abc_note_is_beamable.false _ (rw c.from-2.ensures at c.set_note_beam-2.ensures)
