-- THE BYTES OF EACH KIND OF ROW: its width, and what a write into it makes of it.
use Prim.Native.Nat.{ℕ}
use mathlib.Core.Path.{◌≡◌, refl}
use mathlib.Core.List.{[], ◌∷◌}
use lib.ListN.{length, get_or}
use Rattle.laws.specs.Bytes.{splice, little}
use Rattle.standard.specs.Pitches.{Pitch}
use Rattle.standard.specs.Notes.{Beam}
use Rattle.reader.specs.Codes.{kind_code, beam_code}
use Rattle.reader.specs.State.{Note, with_beam, with_value}
use Rattle.reader.specs.Records.{signed8, signed16, pitch_bytes}
use Rattle.part_rows.specs.declared.NoteRow.{NoteRow}
use Rattle.part_rows.specs.declared.Sounded.{Sounded}
use Rattle.part_rows.specs.Encoded.{row_for, row_bytes, note_row, pitch_for, pitch_row, note_row_width, pitch_row_width, kind_at, value_at, dots_at, beam_at}

-- NOTES
pub length_row : (n : NoteRow) (v : ℕ) → length (row_bytes n v) ≡ note_row_width
unfolding row_bytes little
length_row n v = refl

pub length_note : (x : ℕ × Note) → length (note_row x) ≡ note_row_width
length_note x = length_row (row_for x.1) x.0

pub note_kind : (x : ℕ × Note) → get_or (note_row x) kind_at 0 ≡ kind_code x.1.kind
unfolding row_bytes
note_kind x = refl

pub note_value : (x : ℕ × Note) → get_or (note_row x) value_at 0 ≡ x.1.value
unfolding row_bytes
note_value x = refl

pub note_dots : (x : ℕ × Note) → get_or (note_row x) dots_at 0 ≡ x.1.dots
unfolding row_bytes
note_dots x = refl

pub note_set_value : (x : ℕ × Note) (v d : ℕ) → splice (note_row x) value_at (v ∷ d ∷ []) ≡ note_row (x.0, with_value v d x.1)
unfolding row_bytes splice
note_set_value x v d = refl

pub note_set_beam : (x : ℕ × Note) (b : Beam) → splice (note_row x) beam_at (beam_code b ∷ []) ≡ note_row (x.0, with_beam b x.1)
unfolding row_bytes splice
note_set_beam x b = refl

-- PITCHES
pub pitch_row_lem : (p : Pitch) → pitch_row (pitch_for p) ≡ pitch_bytes p
unfolding pitch_row pitch_bytes
pitch_row_lem p = refl

pub length_pitch : (p : Pitch) → length (pitch_bytes p) ≡ pitch_row_width
unfolding pitch_bytes signed16
length_pitch p = refl

pub length_pitch_row : (p : Sounded) → length (pitch_row p) ≡ pitch_row_width
unfolding pitch_row signed16
length_pitch_row p = refl

-- the bytes that the code writes
pub pitch_bytes_lem : (p : Sounded) (o a c h : ℕ) → o ≡ signed8 p.octave → a ≡ signed8 p.alter → c ≡ signed8 p.cents → signed16 p.cents ≡ signed8 p.cents ∷ h ∷ []
    → p.step ∷ o ∷ a ∷ c ∷ h ∷ [] ≡ pitch_row p
unfolding pitch_row
pitch_bytes_lem p o a c h e f g k = rw (e, f, g, k)
