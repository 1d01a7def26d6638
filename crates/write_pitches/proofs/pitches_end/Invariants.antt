-- `write_pitches::pitches_end` meets its contract.
use Prim.Native.Nat.{◌+◌, ◌-◌, ◌*◌}
use mathlib.Core.Path.{◌≡◌}
use Rattle.part_rows.specs.Encoded.{note_row_width, pitch_row_width}
use Rattle.write_notes.specs.Tables.{pitch_total}
use Rattle.write_pitches.proofs.pitches_end.Given as goal

abbrev pub invariant-loop-row : goal.invariant-loop-row
invariant-loop-row l = l.end + pitch_row_width * pitch_total l.store (l.place + note_row_width * l.row) (l.k - l.row) ≡ l.pitches + pitch_row_width * pitch_total l.store l.place l.k
