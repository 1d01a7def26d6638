-- FOUR PLACES, all but the first written again: one of them is another one.
use Prim.Native.Nat.{ℕ, zero, suc, ◌<◌}
use mathlib.Core.Path.{◌≡◌, refl, ap, ◌∙◌}
use mathlib.Core.Bool.{cond}
use mathlib.Core.List.{List, [], ◌∷◌}
use native.Mathlib.Nat.{not-suc-le-zero, le_of_suc-le-suc}
use lib.Dec.{eqb}
use lib.ListN.{get_or, set}

-- a list with what it has
set_self : (l : List ℕ) (i : ℕ) → set l i (get_or l i 0) ≡ l
set_self [] i = refl
set_self (x ∷ xs) zero = refl
set_self (x ∷ xs) (suc i) = ap (λ (ys : List ℕ). x ∷ ys) (set_self xs i)

as_is : (l : List ℕ) (i x : ℕ) → x ≡ get_or l i 0 → set l i x ≡ l
as_is l i x e = ap (set l i) e ∙ set_self l i

pub four_set : (l : List ℕ) (voice place b c d : ℕ) → voice < 4 → (voice ≡ 0 → ⊥) → b ≡ cond (eqb voice 1) place (get_or l 1 0) → c ≡ cond (eqb voice 2) place (get_or (set l 1 b) 2 0)
    → d ≡ cond (eqb voice 3) place (get_or (set (set l 1 b) 2 c) 3 0) → set (set (set l 1 b) 2 c) 3 d ≡ set l voice place
four_set l zero place b c d k n eb ec ed = absurd (n refl)
four_set l (suc zero) place b c d k n eb ec ed = as_is _ 3 d ed ∙ as_is _ 2 c ec ∙ ap (set l 1) eb
four_set l (suc (suc zero)) place b c d k n eb ec ed = as_is _ 3 d ed ∙ (λ i. set (as_is l 1 b eb i) 2 (ec i))
four_set l (suc (suc (suc zero))) place b c d k n eb ec ed = λ i. set ((as_is _ 2 c ec ∙ as_is l 1 b eb) i) 3 (ed i)
four_set l (suc (suc (suc (suc m)))) place b c d k n eb ec ed = absurd (not-suc-le-zero (le_of_suc-le-suc (le_of_suc-le-suc (le_of_suc-le-suc (le_of_suc-le-suc k)))))
