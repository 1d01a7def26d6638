-- Lists of elements that have an owner, and places in a list. Assumes nothing.
use Prim.Native.Nat.{ℕ, zero, suc, ◌<◌}
use mathlib.Core.Path.{◌≡◌, refl}
use mathlib.Core.Bool.{true}
use mathlib.Core.Option.{some}
use mathlib.Core.List.{List, [], ◌∷◌}
use native.Mathlib.Omega.{arith}
use lib.Dec.{eqb}
use lib.ListN.{length, get_elem?}
use Rattle.laws.specs.Lists.{All, filter, eq_text, elem, index_of}
use Rattle.laws.proofs.Bools.{eqb_same}
use Rattle.laws.proofs.Lists.{All-map, filter_agree}
use Rattle.laws.proofs.Orders.{number_name}

-- of elements whose owners all have a number: those with v's number are those that v owns
pub numbered_named : {A : Type 0} (o : A → List ℕ) (ids : List (List ℕ)) (v : List ℕ) → elem v ids ≡ true → (xs : List A) → All (λ x. elem (o x) ids ≡ true) xs
    → filter (λ x. eqb (index_of (o x) ids) (index_of v ids)) xs ≡ filter (λ x. eq_text (o x) v) xs
numbered_named o ids v hv xs h =
    filter_agree (λ x. eqb (index_of (o x) ids) (index_of v ids)) (λ x. eq_text (o x) v) xs
    (All-map (λ x. elem (o x) ids ≡ true) (λ x. eqb (index_of (o x) ids) (index_of v ids) ≡ eq_text (o x) v)
    (λ x k. number_name (λ (w : List ℕ). w) ids (index_of v ids) v (o x) hv (eqb_same (index_of v ids)) k)
    xs h)

-- at a place within the list there is an element
pub get_elem?_some : {A : Type 0} (xs : List A) (k : ℕ) → k < length xs → (x : A) × (get_elem? xs k ≡ some x)
get_elem?_some [] k h = absurd (omega (arith, h))
get_elem?_some (x ∷ xs) zero h = (x, refl)
get_elem?_some (x ∷ xs) (suc k) h = get_elem?_some xs k (omega (arith, h))
