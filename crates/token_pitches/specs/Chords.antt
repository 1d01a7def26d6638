-- A chord read pitch by pitch. `pitch_met` is the first step of the definition's `chord_of`; `chord_walk` says that the steps, one after the other, give its list.
use Rattle.std.specs.Prelude.{ℕ, zero, suc, ◌+◌, Bool, true, false, cond, ◌||◌, List, [], ◌∷◌, ltb, length}
use Rattle.std.proofs.Math.Option.{Option, none, some}
use Rattle.standard.specs.Bytes.{is}
use Rattle.standard.specs.Pitches.{Accidental, Written, is_letter, step_of}
use Rattle.reader.specs.Pitches as reader
use Rattle.reader.specs.Pitches.{natural, quarter_tone, added, is_quarter, Octave, octave_of}
use Rattle.token_pitches.specs.Pitches.{pitch_for}
use Rattle.std.specs.Prelude.{Result, Ok, Err}
use Rattle.refusals.specs.declared.Refusal.{Refusal}
use Rattle.text_bytes.specs.declared.Read.{Read}
use Rattle.token_pitches.specs.declared.Met as code
use Rattle.token_pitches.specs.declared.Met.TheVariants as met-as

-- the chord's end; a pitch that is refused; a pitch and how many bytes were passed up to its last octave mark
pub data Met : Type 0 where
  over out : Met
  met : Written → ℕ → Met

-- n bytes further on
unfoldable pub further : ℕ → Met → Met
further n over = over
further n out = out
further n (met w k) = met w (n + k)

-- a sign `^` (up) or `_` where a waits, with s behind it
unfoldable pub sign_in : Bool → Option Accidental → List ℕ → reader.Before
sign_in up a s = elim (is_quarter a s) [ true ↦ record { sign = some (quarter_tone up); used = 2 } | false ↦ record { sign = some (added up a); used = 1 } ]

-- the letter c with its octave marks
unfoldable pub letter_met : ℕ → Option Accidental → Octave → Met
letter_met c a o = elim o.fine [ true ↦ met (record { step = step_of c; octave = o.octave; sign = a }) (suc o.used) | false ↦ out ]

-- the next pitch; k: bytes still to pass; a: the accidental that waits
unfoldable pub pitch_met : ℕ → Option Accidental → List ℕ → Met
pitch_met k a [] = over
pitch_met zero a (c ∷ s) =
    elim (is "]" c) [
      | true ↦ over
      | false ↦ elim (is "^" c || is "_" c) [
        | true ↦ elim (is_quarter a s) [
          | true ↦ further 1 (pitch_met 1 (some (quarter_tone (is "^" c))) s)
          | false ↦ further 1 (pitch_met 0 (some (added (is "^" c) a)) s)
        ]
        | false ↦ elim (is "=" c) [
          | true ↦ further 1 (pitch_met 0 (some natural) s)
          | false ↦ elim (is_letter c) [ true ↦ letter_met c a (octave_of c s) | false ↦ further 1 (pitch_met 0 a s) ]
        ]
      ]
    ]
pitch_met (suc k) a (c ∷ s) = further 1 (pitch_met k a s)

-- what is met, in the code's type, from a position on
unfoldable pub met_for : ℕ → Met → code.Met
met_for at over = met-as.Over
met_for at out = met-as.Out
met_for at (met w n) = met-as.Pitch (pitch_for w) (at + n)

-- the position after a closing byte; the line's end if there is none
unfoldable pub closed_at : List ℕ → ℕ → ℕ
closed_at line close = cond (ltb close (length line)) (close + 1) close

-- a chord's pitches, by their number, and the position after its bracket
abbrev pub chord_read : ℕ → ℕ → Result (Read ℕ) Refusal
chord_read count next = Ok (record { value = count; next = next })

unfoldable pub chord_for : ℕ → Option (List Written) → Result (Read ℕ) Refusal
chord_for next none = Err Refusal.Octave
chord_for next (some ps) = chord_read (length ps) next
