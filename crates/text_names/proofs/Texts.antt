-- Laws of a name at the front of a text: the library's comparisons, and the loop that compares byte by byte.
use Prim.Native.Nat.{ℕ, ◌+◌, ◌≤◌, ◌<◌}
use mathlib.Core.Path.{◌≡◌, refl, ap, ◌∙◌}
use mathlib.Core.Bool.{false, ◌&&◌}
use mathlib.Core.List.{List, [], ◌∷◌, map}
use native.Mathlib.Nat.{suc_inj}
use native.Mathlib.Omega.{arith}
use lib.Dec.{eqb, ltb}
use lib.ListN.{length, get_or, take, drop, get_or-map}
use lib.Pointwise.{pointwise}
use borrow.Author.Tests.{eq-eqb, ne_eqb, le-leb, lt-leb, ltb-true, ltb-false}
use Rattle.std.specs.Char.{to_ascii_lowercase}
use Rattle.standard.specs.Bytes.{lower}
use Rattle.laws.specs.Lists.{starts_with, eq_text}
use Rattle.laws.proofs.Bools.{by_test}
use Rattle.laws.proofs.Lists.{starts_with_at, starts_with_length}

-- the library's `==`
pub pointwise_text : (s t : List ℕ) → pointwise eqb s t ≡ eq_text s t
pointwise_text [] [] = refl
pointwise_text [] (y ∷ t) = refl
pointwise_text (x ∷ s) [] = refl
pointwise_text (x ∷ s) (y ∷ t) = ap (λ b. eqb x y && b) (pointwise_text s t)

-- the library's `starts_with`
pub pointwise_front : (p s : List ℕ) → pointwise eqb p (take (length p) s) ≡ starts_with p s
pointwise_front [] [] = refl
pointwise_front [] (c ∷ s) = refl
pointwise_front (x ∷ p) [] = refl
pointwise_front (x ∷ p) (c ∷ s) = ap (λ b. eqb x c && b) (pointwise_front p s)

-- a text shorter than the name does not begin with it
pub starts_short : (p s : List ℕ) → length s < length p → starts_with p s ≡ false
starts_short p s h = by_test (starts_with p s) (λ e. absurd (no (starts_with_length p s e))) (λ e. e)
  where
    no : length p ≤ length s → ⊥
    no l = omega arith

-- a text as long as the name begins with it where it is the name
pub starts_whole : (p s : List ℕ) → length s ≡ length p → starts_with p s ≡ eq_text p s
starts_whole [] [] e = refl
starts_whole [] (c ∷ s) e = absurd (omega arith)
starts_whole (x ∷ p) [] e = absurd (omega arith)
starts_whole (x ∷ p) (c ∷ s) e = ap (λ t. eqb x c && t) (starts_whole p s (suc_inj e))

-- THE LOOP: a name p and a text s, at k; it goes on while the bytes agree
module _ (p s : List ℕ) (k : ℕ) (h : length p ≤ length s) where
  pub starts_on : k < length p → get_or p k 0 ≡ get_or s k 0 → starts_with (drop k p) (drop k s) ≡ starts_with (drop (k + 1) p) (drop (k + 1) s)
  starts_on l e = starts_with_at p s k l (omega arith) ∙ rw (eq-eqb _ _ e)

  pub starts_off : k < length p → (get_or p k 0 ≡ get_or s k 0 → ⊥) → starts_with (drop k p) (drop k s) ≡ false
  starts_off l n = starts_with_at p s k l (omega arith) ∙ rw (ne_eqb _ _ n)

-- a byte in small letters, as the library has it
small : (c : ℕ) → lower c ≡ to_ascii_lowercase c
unfolding lower
small c =
    by_test (ltb c 65) (λ e. rw (e, lt-leb 65 c (ltb-true c 65 e)))
    (λ e. rw (e, le-leb 65 c (ltb-false c 65 e))
    (by_test (ltb c 91) (λ f. let h : c ≤ 90 = omega (arith, ltb-true c 91 f) in rw (f, le-leb c 90 h)) (λ f. let h : 90 < c = omega (arith, ltb-false c 91 f) in rw (f, lt-leb c 90 h))))

pub lower_at : (s : List ℕ) (k : ℕ) → get_or (map lower s) k 0 ≡ to_ascii_lowercase (get_or s k 0)
unfolding lower
lower_at s k = get_or-map lower s k 0 ∙ small (get_or s k 0)
