-- STEPS from line to line: each is refused, or goes on with a new state and items for the parts.
use Rattle.std.specs.Prelude.{ℕ, cond, List, [], ◌∷◌, ◌++◌, eqb}

-- a line of the text: its bytes, with its line feed
abbrev pub TextLine : Type 0
TextLine = List ℕ

-- what one line, or several in order, come to: a refusal with its number and line, or a state and items, each with the number of the part it is for
pub data Step (S I : Type 0) : Type 0 where
  refuse : ℕ → ℕ → Step S I
  on : S → List (ℕ × I) → Step S I

module _ {S I : Type 0} where
  -- items before those of what comes later
  abbrev pub first : List (ℕ × I) → Step S I → Step S I
  first a (refuse n l) = refuse n l
  first a (on s b) = on s (a ++ b)

  -- the lines in order, to the first refusal
  abbrev pub run : (S → TextLine → Step S I) → S → List TextLine → Step S I
  run f s [] = on s []
  run f s (r ∷ rs) = elim (f s r) [ refuse n l ↦ refuse n l | on t a ↦ first a (run f t rs) ]

-- the items of part p, in order
abbrev pub items_of {ℓ} : {I : Type ℓ} → ℕ → List (ℕ × I) → List I
items_of p [] = []
items_of p (x ∷ xs) = cond (eqb x.0 p) (x.1 ∷ items_of p xs) (items_of p xs)

-- items for part p
abbrev pub tag {ℓ} : {I : Type ℓ} → ℕ → List I → List (ℕ × I)
tag p [] = []
tag p (x ∷ xs) = (p, x) ∷ tag p xs
