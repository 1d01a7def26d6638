-- `write_pitches::write_voice` meets its contract: what is left of the rows gives what is left of the pitches.
use Prim.Native.Nat.{◌+◌, ◌-◌, ◌*◌, ◌≤◌}
use mathlib.Core.Path.{◌≡◌}
use lib.ListN.{length}
use Rattle.part_rows.specs.Encoded.{note_row_width, pitch_row_width}
use Rattle.write_notes.proofs.Written.{Written}
use Rattle.write_notes.specs.Tables.{pitch_total}
use Rattle.write_pitches.specs.Out.{voice_out}
use Rattle.write_pitches.proofs.write_voice.Given as goal

abbrev pub invariant-loop-row : goal.invariant-loop-row
invariant-loop-row l =
    (l.q + pitch_row_width * pitch_total l.store (l.place + note_row_width * l.row) (l.k - l.row) ≤ length l.store) × (length l.to ≡ length l.initial.to) × Written l.initial.to (voice_out l.store l.voice l.place l.pitches l.k) (voice_out l.store l.voice (l.place + note_row_width * l.row) l.q (l.k - l.row)) l.to l.at
