-- PIECES AND WORDS of a field's value or a lyric line, and their numbers.
use Rattle.std.specs.Prelude.{ℕ, zero, suc, Bool, true, false, cond, not, List, [], ◌∷◌, take, drop}
use Rattle.std.proofs.Math.Option.{Option, none, some}
use Rattle.laws.specs.Lists.{filter, is_nil}
use Rattle.standard.specs.Bytes.{is, first, digits}
use Rattle.reader.specs.Text.{is_space, is_blank, push}

-- a number with a plus sign allowed, at most `top`, as Rust's `parse` reads a field's number
unfoldable pub numeral : ℕ → List ℕ → Option ℕ
numeral top s = elim (is "+" (first s)) [ true ↦ digits top (drop 1 s) | false ↦ digits top s ]

-- what stands before the first byte that passes (all, if none does)
unfoldable pub before : (ℕ → Bool) → List ℕ → List ℕ
before p [] = []
before p (c ∷ s) = elim (p c) [ true ↦ [] | false ↦ c ∷ before p s ]

-- what stands after the first byte that passes, if one does
unfoldable pub after : (ℕ → Bool) → List ℕ → Option (List ℕ)
after p [] = none
after p (c ∷ s) = elim (p c) [ true ↦ some s | false ↦ after p s ]

-- the pieces between separators; w: how many bytes a separator at the front takes, 0 where there is none; k: bytes of a separator still to pass
unfoldable pub pieces : (List ℕ → ℕ) → ℕ → List ℕ → List (List ℕ)
pieces w k [] = [] ∷ []
pieces w zero (c ∷ s) = elim (w (c ∷ s)) as (λ _. List (List ℕ)) [ zero ↦ push c (pieces w zero s) | suc n ↦ [] ∷ pieces w n s ]
pieces w (suc k) (c ∷ s) = pieces w k s

-- the pieces that are not empty
unfoldable pub words : (List ℕ → ℕ) → List ℕ → List (List ℕ)
words w s = filter (λ p. not (is_nil p)) (pieces w 0 s)

-- a separator of one byte, which passes a test
abbrev pub separator : (ℕ → Bool) → List ℕ → ℕ
separator p s = cond (p (first s)) 1 0

-- the bytes of a character of Unicode's white space at the front, one to three; 0 if there is none
unfoldable pub white_at : List ℕ → ℕ
white_at s = elim (is_blank (take 1 s)) [ true ↦ 1 | false ↦ elim (is_blank (take 2 s)) [ true ↦ 2 | false ↦ cond (is_blank (take 3 s)) 3 0 ] ]

-- the words of a field's value, which is ASCII (refusal 6)
unfoldable pub field_words : List ℕ → List (List ℕ)
field_words s = words (separator is_space) s

-- without white space at the front (ASCII)
unfoldable pub trim_start : List ℕ → List ℕ
trim_start [] = []
trim_start (c ∷ s) = elim (is_space c) [ true ↦ trim_start s | false ↦ c ∷ s ]

-- a byte before what is left after trimming: white space goes where nothing is left
unfoldable pub cons_trim : ℕ → List ℕ → List ℕ
cons_trim c [] = cond (is_space c) [] (c ∷ [])
cons_trim c (d ∷ s) = c ∷ d ∷ s

-- without white space at the end (ASCII)
unfoldable pub trim_end : List ℕ → List ℕ
trim_end [] = []
trim_end (c ∷ s) = cons_trim c (trim_end s)

-- without white space at either end (ASCII)
unfoldable pub trimmed : List ℕ → List ℕ
trimmed s = trim_end (trim_start s)
