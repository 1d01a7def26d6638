-- Lists in another order, and elements that each belong to an owner.
use Rattle.std.specs.Prelude.{ℕ, List, [], ◌∷◌, get_or, set}

-- `a` put into a list at some place
pub data Ins {A : Type 0} (a : A) : List A → List A → Type 0 where
  here : {xs : List A} → Ins a xs (a ∷ xs)
  there : {b : A} {xs ys : List A} → Ins a xs ys → Ins a (b ∷ xs) (b ∷ ys)

-- the same elements, each as often, in some order
pub data Perm {A : Type 0} : List A → List A → Type 0 where
  nothing : Perm [] []
  more : {a : A} {xs ys zs : List A} → Perm xs ys → Ins a ys zs → Perm (a ∷ xs) zs

-- a step on the place of a list that the element's owner has
abbrev pub at_owner {ℓ κ} : {A : Type ℓ} {C : Type κ} → (A → ℕ) → (C → A → C) → C → List C → A → List C
at_owner owner g d b x = set b (owner x) (g (get_or b (owner x) d) x)
