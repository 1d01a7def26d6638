-- Laws of tests and sums over the records of a section, for loops that go from the first on.
use Prim.Native.Nat.{ℕ, zero, suc, ◌+◌, ◌-◌, ◌≤◌, ◌<◌}
use mathlib.Core.Path.{◌≡◌, refl, sym, ◌∙◌}
use mathlib.Core.Bool.{Bool, true, false, ◌&&◌}
use native.Mathlib.Numerals.{add-one}
use native.Mathlib.Omega.{arith}
use lib.Dec.{leb, eqb}
use borrow.Author.Tests.{leb-true, leb-false, eqb-true, eq-eqb, ne_eqb}
use Rattle.laws.proofs.Bools.{by_test, same_test, and_no_right}
use Rattle.reading_whole.specs.Whole.{every, total}

-- ONE MORE
pub every_none : (f : ℕ → Bool) → every f 0 ≡ true
unfolding every
every_none f = refl

pub every_more : (f : ℕ → Bool) (i : ℕ) {fine : Bool} (b : Bool) → fine ≡ every f i → b ≡ f i → (fine && b) ≡ every f (i + 1)
unfolding every
every_more f i b e g = (λ j. e j && g j) ∙ (rw (add-one i))

total_none : (g : ℕ → ℕ) → total g 0 ≡ 0
unfolding total
total_none g = refl

total_more : (g : ℕ → ℕ) (i : ℕ) → total g (i + 1) ≡ total g i + g i
unfolding total
total_more g i = rw (add-one i)

-- the sum over more is as great
total_le : (g : ℕ → ℕ) (i n : ℕ) → i ≤ n → total g i ≤ total g n
unfolding total
total_le g i zero h = let e : i ≡ 0 = omega arith in rw e (omega arith)
total_le g i (suc n) h =
    by_test (leb i n) (λ e. omega (arith, total_le g i n (leb-true i n e)))
    (λ e. let q : i ≡ suc n = omega (arith, leb-false i n e) in rw q (omega arith))

-- WHAT IS TESTED AND TAKEN: f of each of the first i records is tested, and g of each taken from k
pub record Taken (f : ℕ → Bool) (g : ℕ → ℕ) (k : ℕ) (fine : Bool) (left i : ℕ) : Type 0 where
  pub tested : fine ≡ every f i
  pub taken : left + total g i ≡ k

pub taken_none : {f : ℕ → Bool} {g : ℕ → ℕ} {k : ℕ} → Taken f g k true k 0
taken_none {f} {g} = record { tested = sym (every_none f); taken = omega (arith, total_none g) }

pub taken_more : {f : ℕ → Bool} {g : ℕ → ℕ} {k : ℕ} {fine : Bool} {left i : ℕ} (b : Bool) (own : ℕ)
    → Taken f g k fine left i → b ≡ f i → own ≡ g i → own ≤ left → Taken f g k (fine && b) (left - own) (i + 1)
taken_more {f} {g} {i = i} b own t e o h =
    record { tested = every_more f i b t.tested e; taken = omega (arith, t.taken, total_more g i) }

-- more than is left: the sum of all n is not k
pub taken_over : {f : ℕ → Bool} {g : ℕ → ℕ} {k : ℕ} {fine : Bool} {left i : ℕ} (b : Bool) (own n : ℕ)
    → Taken f g k fine left i → own ≡ g i → i < n → left < own → false ≡ (b && eqb (total g n) k)
taken_over {f} {g} {k} {i = i} b own n t o h l =
    sym (and_no_right b (eqb (total g n) k) (ne_eqb (total g n) k (λ q. omega (arith, q, t.taken, total_le g (i + 1) n (omega arith), total_more g i))))

-- at the end nothing is left where the sum is k
pub taken_all : {f : ℕ → Bool} {g : ℕ → ℕ} {k : ℕ} {fine : Bool} {left i : ℕ} (n : ℕ) → i ≤ n → n ≤ i → Taken f g k fine left i → (fine ≡ every f n) × (eqb left 0 ≡ eqb (total g n) k)
taken_all {f} {g} {k} {left = left} {i = i} n a b t =
    let e : i ≡ n = omega arith in
    let h : left + total g n ≡ k = rw e at t.taken in
    (rw e at t.tested, same_test (eqb left 0) (eqb (total g n) k) (λ e. eq-eqb (total g n) k (omega (arith, eqb-true left 0 e))) (λ e. eq-eqb left 0 (omega (arith, eqb-true (total g n) k e))))
