-- A rule at every number below a bound, or at every pair below two, by one test that antt computes.
use Prim.Native.Nat.{ℕ, zero, suc, ◌<◌}
use mathlib.Core.Path.{◌≡◌, sym}
use mathlib.Core.Bool.{Bool, true, true≢false}
use native.Mathlib.Nat.{not-suc-le-zero}
use native.Mathlib.Omega.{arith}
use lib.Dec.{eqb}
use borrow.Author.Tests.{eqb-true, eqb-false}
use Rattle.laws.specs.Lists.{all_below}
use Rattle.laws.proofs.Bools.{by_test}

-- `below 256 p refl c h`: the test at c, where antt computed it at all numbers below 256
pub below : (n : ℕ) (p : ℕ → Bool) → all_below n p ≡ true → (k : ℕ) → k < n → p k ≡ true
below zero p e k h = absurd (not-suc-le-zero h)
below (suc n) p e k h =
    by_test (p n)
    (λ q. by_test (eqb k n) (λ s. rw (eqb-true k n s) q)
    (λ s. let d = eqb-false k n s in below n p (rw (q, all_below) at e) k (omega arith)))
    (λ q. absurd (true≢false (sym (rw (q, all_below) at e))))

-- `below₂ 10 4 f refl a b h k`: the test at the pair of a and b, where antt computed it at all pairs below 10 and 4
pub below₂ : (m n : ℕ) (f : ℕ → ℕ → Bool) → all_below m (λ a. all_below n (f a)) ≡ true → (a b : ℕ) → a < m → b < n → f a b ≡ true
below₂ m n f e a b ha hb = below n (f a) (below m (λ x. all_below n (f x)) e a ha) b hb
