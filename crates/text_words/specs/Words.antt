-- A text's first word, and what stands before and after a byte in it.
use Rattle.std.specs.Prelude.{ℕ, ◌<◌, ◌≡◌, Bool, not, List, ◌∷◌, ◌++◌, eqb, length}
use Rattle.std.proofs.Math.Option.{none, some}
use Rattle.reader.specs.Text.{is_space}
use Rattle.reader.specs.Pieces.{before, after, field_words}

-- a byte of a word
abbrev pub not_space : ℕ → Bool
not_space c = not (is_space c)

-- the first word of t, with a byte at least, and what stands behind it
pub record FirstWord (t word behind : List ℕ) : Type 0 where
  pub bytes : 0 < length word
  pub shorter : length behind < length t
  pub place : (gap : List ℕ) × (t ≡ gap ++ (word ++ behind))
  pub words : field_words t ≡ word ∷ field_words behind

-- no byte x in t
pub record Unsplit (x : ℕ) (t : List ℕ) : Type 0 where
  pub before : before (λ c. eqb c x) t ≡ t
  pub after : after (λ c. eqb c x) t ≡ none

-- the parts of t around its first byte x
pub record SplitAround (x : ℕ) (t front back : List ℕ) : Type 0 where
  pub before : before (λ c. eqb c x) t ≡ front
  pub after : after (λ c. eqb c x) t ≡ some back
