-- PITCH LETTERS AND OCTAVES (ABC 2.1, 4.1), ACCIDENTALS (4.2). Signed numbers have 128 added (Bytes).
use Rattle.std.specs.Prelude.{ℕ, ◌+◌, ◌-◌, ◌%◌, Bool, true, false, cond, ◌&&◌, ◌||◌, List, leb, ltb}
use Rattle.std.proofs.Math.Option.{Option, none, some}
use Rattle.laws.specs.Lists.{foldl, eq_text}
use Rattle.standard.specs.Bytes.{ascii, is}

-- 4.1: a note letter, A to G or a to g
abbrev pub is_letter : ℕ → Bool
is_letter c = (leb 65 c && leb c 71) || (leb 97 c && leb c 103)

-- a letter's step: C is 0, B is 6
unfoldable pub step_of : ℕ → ℕ
step_of c = (c % 32 + 4) % 7

-- 4.1: capitals stand in the octave from middle C, octave 4; small letters in the one above, 5
unfoldable pub letter_octave : ℕ → ℕ
letter_octave c = cond (ltb c 97) 132 133

-- 4.1: a comma is an octave down, an apostrophe one up
unfoldable pub octave_mark : ℕ → ℕ → ℕ
octave_mark o c = cond (is "," c) (o - 1) (cond (is "'" c) (o + 1) o)

-- 4.1: the octave after marks in any order
unfoldable pub octave_by : ℕ → List ℕ → ℕ
octave_by o marks = foldl octave_mark o marks

-- an accidental: the alteration in half tones, and cents
pub record Accidental : Type 0 where
  pub alter : ℕ
  pub cents : ℕ

-- 4.2: `^` sharp, `^^` double sharp, `_` flat, `__` double flat, `=` natural
unfoldable pub alter_of : List ℕ → Option ℕ
alter_of sign =
    elim (eq_text sign (ascii "=")) [
      | true ↦ some 128
      | false ↦ elim (eq_text sign (ascii "^")) [
        | true ↦ some 129
        | false ↦ elim (eq_text sign (ascii "^^")) [
          | true ↦ some 130
          | false ↦ elim (eq_text sign (ascii "_")) [ true ↦ some 127 | false ↦ cond (eq_text sign (ascii "__")) (some 126) none ]
        ]
      ]
    ]

-- a pitch as written: its accidental, or none
pub record Written : Type 0 where
  pub step : ℕ
  pub octave : ℕ
  pub sign : Option Accidental

-- a pitch as sounded
pub record Pitch : Type 0 where
  pub step : ℕ
  pub octave : ℕ
  pub alter : ℕ
  pub cents : ℕ

-- a written pitch with its accidental
unfoldable pub altered : Written → Accidental → Pitch
altered w a = record { step = w.step; octave = w.octave; alter = a.alter; cents = a.cents }
