-- KEY SIGNATURES by the line of fifths (ABC 2.1, 3.1.14): ♭ .. F C G D A E B .. ♯, each a fifth above the one before it.
-- Fifths have 128 added: C major is 128, one sharp more is one more.
use Rattle.std.specs.Prelude.{ℕ, ◌+◌, ◌-◌, ◌*◌, ◌%◌, Bool, true, false, cond, ◌&&◌, List, [], ◌∷◌, leb, ltb}
use Rattle.std.proofs.Math.Option.{Option, none, some}
use Rattle.laws.specs.Lists.{starts_with}
use Rattle.standard.specs.Bytes.{ascii, is}
use Rattle.standard.specs.Pitches.{step_of}

pub record Key : Type 0 where
  pub fifths : ℕ
  pub minor : Bool

-- C major
unfoldable pub plain_key : Key
plain_key = record { fifths = 128; minor = false }

-- a step's place on the line F C G D A E B, from 0
unfoldable pub place : ℕ → ℕ
place step = (2 * step + 1) % 7

-- the fifths of a tonic in major: C is 0, G 1, .., F −1; a sharp adds 7, a flat takes 7
unfoldable pub tonic : List ℕ → Option ℕ
tonic [] = none
tonic (c ∷ []) = elim (leb 65 c && leb c 71) [ true ↦ some (127 + place (step_of c)) | false ↦ none ]
tonic (c ∷ d ∷ []) =
    elim (leb 65 c && leb c 71) [
      | true ↦ elim (is "#" d) [
        | true ↦ some (127 + place (step_of c) + 7)
        | false ↦ elim (is "b" d) [ true ↦ some (127 + place (step_of c) - 7) | false ↦ none ]
      ]
      | false ↦ none
    ]
tonic (c ∷ d ∷ e ∷ s) = none

-- minor has three sharps fewer than major on the same tonic
unfoldable pub in_mode : Bool → ℕ → ℕ
in_mode minor t = cond minor (t - 3) t

-- THE MODES in the order of the line of fifths: on one tonic lydian has a sharp more than major (ionian), and each next one a sharp fewer
pub data Mode : Type 0 where
  lydian ionian mixolydian dorian aeolian phrygian locrian : Mode

-- how many sharps fewer than lydian
unfoldable pub flatter : Mode → ℕ
flatter lydian = 0
flatter ionian = 1
flatter mixolydian = 2
flatter dorian = 3
flatter aeolian = 4
flatter phrygian = 5
flatter locrian = 6

-- the fifths of a mode on a tonic; t: those of the tonic in major
unfoldable pub fifths_in : Mode → ℕ → ℕ
fifths_in m t = t + 1 - flatter m

-- "mode by its first three letters in any case": in small letters, each with its mode; major is ionian, minor aeolian
unfoldable pub mode_names : List (List ℕ × Mode)
mode_names =
    (ascii "maj", ionian)
    ∷ (ascii "ion", ionian)
    ∷ (ascii "min", aeolian)
    ∷ (ascii "aeo", aeolian)
    ∷ (ascii "dor", dorian)
    ∷ (ascii "phr", phrygian)
    ∷ (ascii "lyd", lydian)
    ∷ (ascii "mix", mixolydian)
    ∷ (ascii "loc", locrian)
    ∷ []

-- the mode by whose name the text begins
unfoldable pub mode_in : List (List ℕ × Mode) → List ℕ → Option Mode
mode_in [] s = none
mode_in (n ∷ ns) s = elim (starts_with n.0 s) [ true ↦ some n.1 | false ↦ mode_in ns s ]

-- what a key does to a step: sharps come in the line's order from F on, flats from B back
unfoldable pub key_alter : Key → ℕ → ℕ
key_alter k step = elim (ltb (place step + 128) k.fifths) [ true ↦ 129 | false ↦ cond (leb k.fifths (place step + 121)) 127 128 ]

-- THE HEADER'S KEY (7.1) "holds for every voice": the key that a voice begins with
abbrev pub voice_key : Key → Key
voice_key header = header
