-- Pitches as the code has them: what each answer of the definitions is in the code's types, at a position.
use Rattle.std.specs.Prelude.{ℕ, ◌+◌, Bool, true, false}
use Rattle.std.proofs.Math.Option.{Option, none, some}
use Rattle.standard.specs.Pitches.{Accidental, Written, step_of, letter_octave}
use Rattle.reader.specs.Pitches as reader
use Rattle.reader.specs.Pitches.{quarter_tone}
use Rattle.std.specs.Prelude.{Result, Ok, Err}
use Rattle.refusals.specs.declared.Refusal.{Refusal}
use Rattle.text_bytes.specs.declared.Read.{Read}
use Rattle.token_pitches.specs.declared.Sign.{Sign}
use Rattle.token_pitches.specs.declared.Sign.TheVariants as sign
use Rattle.token_pitches.specs.declared.Pitch.{Pitch}
use Rattle.token_pitches.specs.declared.NoteChar.{NoteChar}

-- a letter
abbrev pub note_char : ℕ → NoteChar
note_char c = record { step = step_of c; octave = letter_octave c }

-- an accidental, or none, in the code's type, and back
abbrev pub sign_for : Option Accidental → Sign
sign_for none = sign.Nothing
sign_for (some a) = sign.Written a.alter a.cents

abbrev pub sign_of : Sign → Option Accidental
sign_of sign.Nothing = none
sign_of (sign.Written a c) = some (record { alter = a; cents = c })

abbrev pub quarter_for : Bool → Sign
quarter_for up = sign_for (some (quarter_tone up))

-- a pitch
abbrev pub pitch_for : Written → Pitch
pitch_for w = record { step = w.step; octave = w.octave; sign = sign_for w.sign }

-- an accidental before a note, with the position after it
abbrev pub before_for : ℕ → reader.Before → Read Sign
before_for at b = record { value = sign_for b.sign; next = at + b.used }

-- an octave with the position after its marks
abbrev pub octave_at : ℕ → ℕ → Result (Read ℕ) Refusal
octave_at octave next = Ok (record { value = octave; next = next })

abbrev pub octave_out : Result (Read ℕ) Refusal
octave_out = Err Refusal.Octave

-- the definition's
unfoldable pub octave_for : ℕ → reader.Octave → Result (Read ℕ) Refusal
octave_for at o = elim o.fine [ true ↦ octave_at o.octave (at + o.used) | false ↦ octave_out ]
