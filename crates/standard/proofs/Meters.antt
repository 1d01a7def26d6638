-- COMPOUND METERS AND THE DEFAULTS OF TUPLETS (ABC 2.1, 4.13), for meters of whatever numbers.
use Prim.Native.Nat.{ℕ}
use mathlib.Core.Path.{◌≡◌, refl}
use mathlib.Core.Bool.{true, ◌||◌}
use mathlib.Core.Option.{some}
use mathlib.Core.List.{[], ◌∷◌, map}
use mathlib.Core.Logic.{◌⊎◌, inl, inr, ⊎_elim}
use lib.Dec.{eqb}
use borrow.Author.Tests.{eqb-true}
use Rattle.laws.proofs.Bools.{by_test, and_left, and_right, or_either}
use Rattle.standard.specs.Fields.{Meter}
use Rattle.standard.specs.Tuplets.{usual_normal, by_meter, default_normal, compound, normal_in}

-- 6/8, 9/8 and 12/8 ..
pub compound_three : (compound (6, 8) ≡ true) × ((compound (9, 8) ≡ true) × (compound (12, 8) ≡ true))
unfolding compound
compound_three = (refl, (refl, refl))

-- .. and no other
pub compound_only : (m : Meter) → compound m ≡ true → (m ≡ (6, 8)) ⊎ ((m ≡ (9, 8)) ⊎ (m ≡ (12, 8)))
unfolding compound
compound_only (top, bottom) h =
    ⊎_elim (λ e. ⊎_elim (λ f. inl (over 6 f)) (λ f. inr (inl (over 9 f))) (or_either (eqb top 6) (eqb top 9) e)) (λ e. inr (inr (over 12 e)))
    (or_either (eqb top 6 || eqb top 9) (eqb top 12) (and_left (eqb top 6 || eqb top 9 || eqb top 12) (eqb bottom 8) h))
  where
    over : (n : ℕ) → eqb top n ≡ true → ◌≡◌ {A = Meter} (top, bottom) (n, 8)
    over n e = λ i. (eqb-true top n e i, eqb-true bottom 8 (and_right (eqb top 6 || eqb top 9 || eqb top 12) (eqb bottom 8) h) i)

-- 4.13's table, p from 2 to 9
pub normal_table : map default_normal (2 ∷ 3 ∷ 4 ∷ 5 ∷ 6 ∷ 7 ∷ 8 ∷ 9 ∷ []) ≡ map some (3 ∷ 2 ∷ 3 ∷ by_meter ∷ 2 ∷ by_meter ∷ 3 ∷ by_meter ∷ [])
unfolding default_normal usual_normal
normal_table = refl

-- what the meter decides is 3 in these three meters ..
pub three_in_compound : (normal_in (6, 8) by_meter ≡ 3) × ((normal_in (9, 8) by_meter ≡ 3) × (normal_in (12, 8) by_meter ≡ 3))
unfolding normal_in compound
three_in_compound = (refl, (refl, refl))

-- .. and 2 in all others
pub two_in_others : (m : Meter) → (m ≡ (6, 8) → ⊥) → (m ≡ (9, 8) → ⊥) → (m ≡ (12, 8) → ⊥) → normal_in m by_meter ≡ 2
unfolding normal_in
two_in_others m a b c = by_test (compound m) (λ e. absurd (none_of (compound_only m e))) (λ e. rw e)
  where
    none_of : (m ≡ (6, 8)) ⊎ ((m ≡ (9, 8)) ⊎ (m ≡ (12, 8))) → ⊥
    none_of (inl e) = a e
    none_of (inr (inl e)) = b e
    none_of (inr (inr e)) = c e
