-- The elements of one kind at the front of a list, and where they end in it.
use Rattle.std.specs.Prelude.{ℕ, ◌+◌, Bool, List, take, drop}
use Rattle.laws.specs.Lists.{count_while}
use Rattle.laws.specs.Bytes.{between}

-- the elements of one kind at the front
abbrev pub run {ℓ} : {A : Type ℓ} → (A → Bool) → List A → List A
run p s = take (count_while p s) s

-- the position after the elements of one kind that stand from a position on
abbrev pub end_of {ℓ} : {A : Type ℓ} → (A → Bool) → List A → ℕ → ℕ
end_of p s at = at + count_while p (drop at s)

-- the same among the bytes before position b
abbrev pub end_in : (ℕ → Bool) → List ℕ → ℕ → ℕ → ℕ
end_in p s a b = a + count_while p (between s a b)
