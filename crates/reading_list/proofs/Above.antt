-- THE NUMBERS ABOVE ANOTHER. Assumes nothing.
use Prim.Native.Nat.{ℕ, ◌≤◌, ◌<◌}
use mathlib.Core.Path.{◌≡◌, refl, ap}
use mathlib.Core.Bool.{cond}
use mathlib.Core.List.{List, [], ◌∷◌, ◌++◌}
use native.Mathlib.Omega.{arith}
use lib.Dec.{ltb}
use borrow.Author.Tests.{ltb-false, lt-ltb, le-ltb}
use Rattle.laws.specs.Lists.{All}
use Rattle.laws.proofs.Bools.{by_test}
use Rattle.reading_list.specs.Numbers.{above}

-- of two lists
pub above_both : (t : ℕ) (xs ys : List ℕ) → above t (xs ++ ys) ≡ above t xs ++ above t ys
unfolding above
above_both t [] ys = refl
above_both t (x ∷ xs) ys = by_test (ltb t x) (λ e. rw e (ap (λ (l : List ℕ). x ∷ l) (above_both t xs ys))) (λ e. rw e (above_both t xs ys))

-- none above the greatest
pub above_none : (t : ℕ) (xs : List ℕ) → All (λ x. x ≤ t) xs → above t xs ≡ []
unfolding above
above_none t [] h = refl
above_none t (x ∷ xs) h = rw (le-ltb t x h.0) (above_none t xs h.1)

-- those above a later start are among those above an earlier one
pub above_above : (t u : ℕ) (xs : List ℕ) → t ≤ u → above u (above t xs) ≡ above u xs
unfolding above
above_above t u [] h = refl
above_above t u (x ∷ xs) h =
    by_test (ltb t x)
    (λ e. rw e (ap (λ (l : List ℕ). cond (ltb u x) (x ∷ l) l) (above_above t u xs h)))
    (λ e. rw (e, le-ltb u x (omega (arith, ltb-false t x e, h))) (above_above t u xs h))

-- of one number
pub above_yes : (t x : ℕ) → t < x → above t (x ∷ []) ≡ x ∷ []
unfolding above
above_yes t x h = rw (lt-ltb t x h) refl

pub above_no : (t x : ℕ) → x ≤ t → above t (x ∷ []) ≡ []
unfolding above
above_no t x h = rw (le-ltb t x h) refl
