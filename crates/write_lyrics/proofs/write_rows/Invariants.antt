-- `write_lyrics::write_rows` meets its contract: what is left of the rows gives what is left to write.
use Prim.Native.Nat.{◌+◌, ◌-◌, ◌*◌, ◌≤◌}
use mathlib.Core.Path.{◌≡◌}
use mathlib.Core.Bool.{false}
use lib.ListN.{length}
use Rattle.part_rows.specs.Encoded.{note_row_width}
use Rattle.write_notes.proofs.Written.{Written}
use Rattle.lyrics.specs.Sheet.{syllables_in}
use Rattle.write_lyrics.specs.Out.{sung_rows, rows_out}
use Rattle.write_lyrics.proofs.write_rows.Given as goal

abbrev pub invariant-loop-row : goal.invariant-loop-row
invariant-loop-row l =
    (l.i ≤ l.note + l.row) × (l.j ≤ l.sung + l.row) × (l.j + sung_rows l.store (l.place + note_row_width * l.row) (l.k - l.row) ≡ l.sung + sung_rows l.store l.place l.k) × (length l.to ≡ length l.initial.to)
    × Written l.initial.to (rows_out false (syllables_in l.words.text.now l.words.store.now l.words.sheet) l.store l.note l.sung l.place l.k) (rows_out false (syllables_in l.words.text.now l.words.store.now l.words.sheet) l.store l.i l.j (l.place + note_row_width * l.row) (l.k - l.row)) l.to l.at
