-- Characters as bytes, and numbers written in digits. A text is the list of its bytes.
-- SIGNED NUMBERS from −128 to 127 (octaves, alterations, cents, fifths) are kept with 128 added: 128 stands for 0, 127 for −1.
use Rattle.std.specs.Prelude.{ℕ, ◌+◌, ◌-◌, ◌*◌, Bool, true, false, cond, not, ◌&&◌, List, [], ◌∷◌, leb, eqb, length, get_or}
use Prim.Native.Char.{Char, code}
use Prim.Native.String.{String, [] as empty, ◌∷◌ as char-then}
use Rattle.std.proofs.Math.Option.{Option, none, some}
use Rattle.laws.specs.Lists.{all, is_nil}

-- the bytes of a quoted ASCII text
abbrev pub ascii : String → List ℕ
ascii empty = []
ascii (char-then c s) = code c ∷ ascii s

-- the byte c is the character x
abbrev pub is : Char → ℕ → Bool
is x c = eqb c (code x)

-- 0 to 9
abbrev pub is_digit : ℕ → Bool
is_digit c = leb 48 c && leb c 57

-- A to Z
abbrev pub is_capital : ℕ → Bool
is_capital c = leb 65 c && leb c 90

-- a capital as a small letter; any other byte as it is
unfoldable pub lower : ℕ → ℕ
lower c = cond (is_capital c) (c + 32) c

-- the first byte, 0 if there is none
abbrev pub first : List ℕ → ℕ
first s = get_or s 0 0

-- the last byte, 0 if there is none
abbrev pub last : List ℕ → ℕ
last s = get_or s (length s - 1) 0

-- the number that digits write, after the number a
unfoldable pub decimal : ℕ → List ℕ → ℕ
decimal a [] = a
decimal a (c ∷ s) = decimal (a * 10 + (c - 48)) s

-- the number of a text that is all digits, one at least, if it is at most `top`
unfoldable pub digits : ℕ → List ℕ → Option ℕ
digits top s = elim (not (is_nil s) && all is_digit s && leb (decimal 0 s) top) [ true ↦ some (decimal 0 s) | false ↦ none ]
