-- `write_notes::write_rows` meets its contract: what is left of the rows gives what is left of the records, for which there is room.
use Prim.Native.Nat.{◌+◌, ◌-◌, ◌*◌, ◌≤◌}
use mathlib.Core.Path.{◌≡◌}
use lib.ListN.{length}
use Rattle.reader.specs.Records.{note_width}
use Rattle.part_rows.specs.Encoded.{note_row_width}
use Rattle.write_notes.specs.Out.{records_out}
use Rattle.write_notes.proofs.Written.{Written}
use Rattle.write_notes.proofs.write_rows.Given as goal

abbrev pub invariant-loop-row : goal.invariant-loop-row
invariant-loop-row l =
    (note_width * l.k ≤ length l.to) × (length l.to ≡ length l.initial.to) × Written l.initial.to (records_out l.store l.place l.k) (records_out l.store (l.place + note_row_width * l.row) (l.k - l.row)) l.to (note_width * l.row)
