-- The greatest pass, by halving.
use Prim.Native.Nat.{ℕ, zero, suc, ◌+◌, ◌-◌, ◌/◌, ◌%◌, ◌^◌, ◌≤◌, ◌<◌}
use mathlib.Core.Path.{◌≡◌, refl, sym, ap, ◌∙◌}
use mathlib.Core.Bool.{true, false}
use native.Mathlib.Omega.{arith}
use native.Mathlib.Nat.{zero-div, div-lt_iff_lt-mul}
use lib.Dec.{eqb, ltb}
use lib.Pow.{pow_pos, pow_mono, shr-shr, field, mod-mod-pow}
use borrow.Author.Tests.{eq-eqb, ne_eqb, ltb-true, ltb-false}
use Rattle.laws.proofs.Bools.{by_test}
use Rattle.reading_walk.specs.Walk.{has_pass, greatest}

-- p is there and none above it up to k
greatest_is : (k p ps : ℕ) → p ≤ k → (0 < p → has_pass ps p ≡ true) → ((q : ℕ) → p < q → q ≤ k → has_pass ps q ≡ false) → greatest k ps ≡ p
unfolding greatest
greatest_is zero p ps h y n = omega (arith, h)
greatest_is (suc k) p ps h y n =
    by_test (ltb p (suc k))
    (λ l. let m : p < suc k = ltb-true p (suc k) l in rw (n (suc k) m (omega arith), greatest) (greatest_is k p ps (omega arith) y (λ q a b. n q a (omega arith))))
    (λ l. let e : p ≡ suc k = omega (arith, ltb-false p (suc k) l, h) in
    let t : has_pass ps (suc k) ≡ true = rw e at (y (omega (arith, e))) in
    rw (t, greatest) (sym e))

-- it depends on the lowest 32 bits alone
low_pass : (ps p : ℕ) → p < 32 → has_pass (ps % 2 ^ 32) (suc p) ≡ has_pass ps (suc p)
unfolding has_pass
low_pass ps p h =
    let n : ℕ = 31 - p in
    let e : (n + 1) + p ≡ 32 = omega (arith, h) in
    let f : ps % 2 ^ 32 / 2 ^ p ≡ ps / 2 ^ p % 2 ^ (n + 1) = rw e at (field ps (n + 1) p) in
    let g : suc p - 1 ≡ p = omega arith in
    rw (g, f) (ap (λ (b : ℕ). eqb b 1) (mod-mod-pow (ps / 2 ^ p) n 1))

greatest_low : (k ps : ℕ) → k ≤ 32 → greatest k (ps % 2 ^ 32) ≡ greatest k ps
unfolding greatest
greatest_low zero ps h = refl
greatest_low (suc k) ps h = rw (low_pass ps k h, greatest_low k ps (omega arith))

pub greatest_of_low : (ps : ℕ) → greatest 32 (ps % 2 ^ 32) ≡ greatest 32 ps
greatest_of_low ps = greatest_low 32 ps (omega arith)

-- how far the halving has come: passes were halved `pass` times, the last time not from 0
pub record Halved (passes rest pass : ℕ) : Type 0 where
  pub rest_is : rest ≡ passes / 2 ^ pass
  pub within : pass ≤ 32
  pub seen : (p : ℕ) → pass ≡ suc p → 0 < passes / 2 ^ p

pub halved_none : (passes : ℕ) → Halved passes passes 0
halved_none passes = record { rest_is = omega arith; within = omega arith; seen = λ p e. absurd (omega (arith, e)) }

-- passes below 2 ^ 32 are 0 after 32 times
below : (passes pass : ℕ) → passes < 2 ^ 32 → 0 < passes / 2 ^ pass → pass < 32
below passes pass b r =
    by_test (ltb pass 32)
    (λ l. ltb-true pass 32 l)
    (λ l. let m : 2 ^ 32 ≤ 2 ^ pass = pow_mono (ltb-false pass 32 l) in
    let z : passes / 2 ^ pass < 1 = (div-lt_iff_lt-mul (pow_pos pass)).1 (omega (arith, m, b)) in
    absurd (omega (arith, z, r)))

pub halved_more : (passes rest pass : ℕ) → passes < 2 ^ 32 → 0 < rest → Halved passes rest pass → Halved passes (rest / 2) (pass + 1)
halved_more passes rest pass b r h =
    let there : 0 < passes / 2 ^ pass = rw h.rest_is at r in
    record {
      rest_is = ap (λ (n : ℕ). n / 2) h.rest_is ∙ shr-shr passes pass 1;
      within = omega (arith, below passes pass b there);
      seen = λ p e. let f : pass ≡ p = omega (arith, e) in rw f at there;
    }

-- above the last time nothing is left, and the last time one pass is
none_left : (passes pass q : ℕ) → passes / 2 ^ pass ≡ 0 → pass ≤ q → passes / 2 ^ q ≡ 0
none_left passes pass q z h =
    let e : pass + (q - pass) ≡ q = omega (arith, h) in
    rw e at (sym (shr-shr passes pass (q - pass)) ∙ ap (λ (n : ℕ). n / 2 ^ (q - pass)) z ∙ zero-div (2 ^ (q - pass)))

last_pass_lem : (passes p : ℕ) → 0 < passes / 2 ^ p → passes / 2 ^ suc p ≡ 0 → passes / 2 ^ p % 2 ≡ 1
last_pass_lem passes p h z =
    let e : p + 1 ≡ suc p = omega arith in
    let f : passes / 2 ^ p / 2 ≡ 0 = shr-shr passes p 1 ∙ rw e z in
    omega (arith, h, f)

pub halved_all : (passes pass : ℕ) → Halved passes 0 pass → pass ≡ greatest 32 passes
unfolding has_pass
halved_all passes pass h = sym (greatest_is 32 pass passes h.within there above)
  where
    there : 0 < pass → has_pass passes pass ≡ true
    there p =
        let e : pass ≡ suc (pass - 1) = omega (arith, p) in
        eq-eqb _ 1 (last_pass_lem passes (pass - 1) (h.seen (pass - 1) e) (rw (← e) (sym h.rest_is)))

    above : (q : ℕ) → pass < q → q ≤ 32 → has_pass passes q ≡ false
    above q l m = ne_eqb (passes / 2 ^ (q - 1) % 2) 1 (λ e. absurd (omega (arith, e, none_left passes pass (q - 1) (sym h.rest_is) (omega (arith, l)))))
