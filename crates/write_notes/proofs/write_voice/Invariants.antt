-- `write_notes::write_voice` meets its contract: what is left of the rows gives what is left of the records.
use Prim.Native.Nat.{◌+◌, ◌-◌, ◌*◌}
use mathlib.Core.Path.{◌≡◌}
use lib.ListN.{length}
use Rattle.part_rows.specs.Encoded.{note_row_width}
use Rattle.write_notes.specs.Out.{voice_out}
use Rattle.write_notes.proofs.Written.{Written}
use Rattle.write_notes.proofs.write_voice.Given as goal

abbrev pub invariant-loop-row : goal.invariant-loop-row
invariant-loop-row l =
    (length l.to ≡ length l.initial.to) × Written l.initial.to (voice_out l.store l.voice l.place l.k) (voice_out l.store l.voice (l.place + note_row_width * l.row) (l.k - l.row)) l.to l.at
