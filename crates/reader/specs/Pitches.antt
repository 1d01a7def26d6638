-- PITCHES in a music line, as written and as sounded (ABC 2.1, 4.1, 4.2, 4.17 chords). Signed numbers have 128 added.
use Rattle.std.specs.Prelude.{ℕ, zero, suc, ◌+◌, ◌-◌, min, Bool, true, false, cond, ◌&&◌, ◌||◌, List, [], ◌∷◌, leb, eqb, drop}
use Rattle.std.proofs.Math.Option.{Option, none, some}
use Rattle.laws.specs.Lists.{count_while}
use Rattle.standard.specs.Bytes.{is, first}
use Rattle.standard.specs.Keys.{Key, key_alter}
use Rattle.standard.specs.Pitches.{Accidental, Written, Pitch, is_letter, step_of, letter_octave, altered}

-- OCTAVES: commas, then apostrophes
pub record Octave : Type 0 where
  pub octave : ℕ
  pub used : ℕ
  -- no mark leaves −128 to 127 (refusal 12)
  pub fine : Bool

-- the marks at the front of s, from the octave `start` on
unfoldable pub octave_from : ℕ → List ℕ → Octave
octave_from start s =
    let down = count_while (is ",") s in
    let up = count_while (is "'") (drop down s) in
    record { octave = start - down + up; used = down + up; fine = leb down start && leb (start - down + up) 255 }

-- the octave of the letter c with the marks behind it
unfoldable pub octave_of : ℕ → List ℕ → Octave
octave_of c s = octave_from (letter_octave c) s

-- ACCIDENTALS
abbrev pub natural : Accidental
natural = record { alter = 128; cents = 128 }

-- a quarter tone up or down
abbrev pub quarter_tone : Bool → Accidental
quarter_tone up = record { alter = 128; cents = cond up 178 78 }

-- n half tones up or down, held at 127 and −128
abbrev pub moved : Bool → ℕ → ℕ → ℕ
moved up n a = cond up (min 255 (a + n)) (a - n)

-- an accidental before a single note, and the bytes it takes
pub record Before : Type 0 where
  pub sign : Option Accidental
  pub used : ℕ

-- n equal signs; one and a slash is a quarter tone
unfoldable pub signs : Bool → ℕ → List ℕ → Before
signs up n s =
    elim (eqb n 1 && is "/" (first (drop n s))) [
      | true ↦ record { sign = some (quarter_tone up); used = 2 }
      | false ↦ record { sign = some (record { alter = moved up n 128; cents = 128 }); used = n }
    ]

-- the accidental at the front: a run of `^`, a run of `_`, or one `=`
unfoldable pub accidental_of : List ℕ → Before
accidental_of s =
    elim (is "^" (first s)) [
      | true ↦ signs true (count_while (is "^") s) s
      | false ↦ elim (is "_" (first s)) [
        | true ↦ signs false (count_while (is "_") s) s
        | false ↦ cond (is "=" (first s)) (record { sign = some natural; used = 1 }) (record { sign = none; used = 0 })
      ]
    ]

-- CHORDS
-- in a chord signs add up, and wait for the next letter
unfoldable pub added : Bool → Option Accidental → Accidental
added up none = record { alter = moved up 1 128; cents = 128 }
added up (some a) = record { alter = moved up 1 a.alter; cents = 128 }

-- no accidental waits and a slash stands behind the sign: a quarter tone, of two bytes
unfoldable pub is_quarter : Option Accidental → List ℕ → Bool
is_quarter none s = is "/" (first s)
is_quarter (some a) s = false

-- a chord's pitch before the others, unless one is refused
unfoldable pub cons_pitch : ℕ → Option Accidental → Octave → Option (List Written) → Option (List Written)
cons_pitch c a o none = none
cons_pitch c a o (some ps) = elim o.fine [ true ↦ some (record { step = step_of c; octave = o.octave; sign = a } ∷ ps) | false ↦ none ]

-- the pitches up to the next `]` or the line's end; none for refusal 12. k: bytes still to pass; a: the accidental that waits
unfoldable pub chord_of : ℕ → Option Accidental → List ℕ → Option (List Written)
chord_of k a [] = some []
chord_of zero a (c ∷ s) =
    elim (is "]" c) [
      | true ↦ some []
      | false ↦ elim (is "^" c || is "_" c) [
        | true ↦ elim (is_quarter a s) [ true ↦ chord_of 1 (some (quarter_tone (is "^" c))) s | false ↦ chord_of 0 (some (added (is "^" c) a)) s ]
        | false ↦ elim (is "=" c) [
          | true ↦ chord_of 0 (some natural) s
          | false ↦ elim (is_letter c) [ true ↦ cons_pitch c a (octave_of c s) (chord_of (octave_of c s).used none s) | false ↦ chord_of 0 a s ]
        ]
      ]
    ]
chord_of (suc k) a (c ∷ s) = chord_of k a s

-- SCOPES: the accidentals of a measure, the last one first (000, resolve_abc_pitch: each holds for its step and octave to the measure's end)
abbrev pub Scope : Type 0
Scope = List Pitch

-- the accidental remembered for this step and octave
unfoldable pub remembered : Scope → Written → Option Pitch
remembered [] w = none
remembered (p ∷ ps) w = elim (eqb p.step w.step && eqb p.octave w.octave) [ true ↦ some p | false ↦ remembered ps w ]

-- what is remembered, else what the key says
unfoldable pub or_key : Key → Written → Option Pitch → Pitch
or_key k w none = record { step = w.step; octave = w.octave; alter = key_alter k w.step; cents = 128 }
or_key k w (some p) = p

-- a pitch: as its accidental says, else as remembered, else as the key says (000, resolve_abc_pitch)
unfoldable pub sound_by : Key → Scope → Written → Option Accidental → Pitch
sound_by k sc w (some a) = altered w a
sound_by k sc w none = or_key k w (remembered sc w)

unfoldable pub sound_of : Key → Scope → Written → Pitch
sound_of k sc w = sound_by k sc w w.sign

-- an accidental written is remembered
unfoldable pub scope_by : Scope → Written → Option Accidental → Scope
scope_by sc w (some a) = altered w a ∷ sc
scope_by sc w none = sc

unfoldable pub scope_after : Scope → Written → Scope
scope_after sc w = scope_by sc w w.sign

-- a chord's pitches, each after the ones before it
unfoldable pub sounds_of : Key → Scope → List Written → List Pitch
sounds_of k sc [] = []
sounds_of k sc (w ∷ ws) = sound_of k sc w ∷ sounds_of k (scope_after sc w) ws

-- the scope after all pitches of a chord
unfoldable pub scope_after_all : Scope → List Written → Scope
scope_after_all sc [] = sc
scope_after_all sc (w ∷ ws) = scope_after_all (scope_after sc w) ws
