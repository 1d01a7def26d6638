-- `part_rhythm::break_note` meets its contract.
use Prim.Native.Nat.{◌+◌, ◌*◌}
use Rattle.part_rhythm.proofs.Rhythm.{broken_written}
use Rattle.part_rows.specs.Encoded.{note_row_width}
use Rattle.part_rhythm.proofs.break_note.Goals as goal

pub returns : goal.returns
returns c =
    let a = c.args in
    broken_written a.store.now (a.at + note_row_width * a.i) a.half.up a.half.times _ c.get_written-w.ensures _ c.broken_length-length.ensures _ _ c.value_of-value.ensures c.dots_of-dots.ensures _ c.set_note_value.ensures
