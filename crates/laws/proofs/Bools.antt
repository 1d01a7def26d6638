-- Laws of tests, and of what is there or not. `by_test` is the daily one: go by the two answers of a test, with the equation in hand.
-- From a test to the order or the equation that it tests, and back: `borrow.Author.Tests`.
use Prim.Native.Nat.{ℕ, ◌≤◌}
use mathlib.Core.Path.{◌≡◌, refl, sym, ◌∙◌}
use mathlib.Core.Bool.{Bool, true, false, cond, not, ◌&&◌, ◌||◌, true≢false}
use mathlib.Core.Option.{none, some}
use mathlib.Core.Logic.{◌⊎◌, inl, inr}
use native.Mathlib.Omega.{arith}
use lib.Dec.{T, eqb}
use borrow.Author.Tests.{eqb-true, eq-eqb}

-- a test's two answers, each with its equation
pub by_test {ℓ} : {P : Type ℓ} (b : Bool) → (b ≡ true → P) → (b ≡ false → P) → P
by_test true t f = t refl
by_test false t f = f refl

-- a computed test as an equation
pub T→true : (b : Bool) → T b → b ≡ true
T→true true t = refl
T→true false t = absurd t

-- and back
pub true→T : (b : Bool) → b ≡ true → T b
true→T true e = tt
true→T false e = absurd (true≢false (sym e))

-- no test passes and fails
pub both_true : (b : Bool) → b ≡ true → b ≡ false → ⊥
both_true b p q = true≢false (sym p ∙ q)

-- what never passes fails
pub never_true : (b : Bool) → (b ≡ true → ⊥) → b ≡ false
never_true true f = absurd (f refl)
never_true false f = refl

-- NOT
-- its no passes: it fails
pub not_true : (b : Bool) → not b ≡ true → b ≡ false
not_true true e = sym e
not_true false e = refl

-- its no fails: it passes
pub not_false : (b : Bool) → not b ≡ false → b ≡ true
not_false true e = refl
not_false false e = sym e

-- AND
-- with what passes
pub and_true : (b : Bool) → (b && true) ≡ b
and_true true = refl
and_true false = refl

-- both pass: so does the first
pub and_left : (a b : Bool) → (a && b) ≡ true → a ≡ true
and_left true b e = refl
and_left false b e = e

-- and the second
pub and_right : (a b : Bool) → (a && b) ≡ true → b ≡ true
and_right true b e = e
and_right false b e = absurd (true≢false (sym e))

-- each passes: so do both
pub and_both : (a b : Bool) → a ≡ true → b ≡ true → (a && b) ≡ true
and_both a b p q = rw (p, q)

-- the first fails: so do both
pub and_no_left : (a b : Bool) → a ≡ false → (a && b) ≡ false
and_no_left a b p = rw p

-- the second fails: so do both
pub and_no_right : (a b : Bool) → b ≡ false → (a && b) ≡ false
and_no_right true b q = q
and_no_right false b q = refl

-- both fail together: one of them fails
pub and_either : (a b : Bool) → (a && b) ≡ false → (a ≡ false) ⊎ (b ≡ false)
and_either true b e = inr e
and_either false b e = inl refl

-- OR
-- with what passes
pub or_true : (b : Bool) → (b || true) ≡ true
or_true true = refl
or_true false = refl

-- with what fails
pub or_false : (b : Bool) → (b || false) ≡ b
or_false true = refl
or_false false = refl

-- three, by either two of them first
pub and_assoc : (a b c : Bool) → ((a && b) && c) ≡ (a && (b && c))
and_assoc true b c = refl
and_assoc false b c = refl

pub or_assoc : (a b c : Bool) → ((a || b) || c) ≡ (a || (b || c))
or_assoc true b c = refl
or_assoc false b c = refl

-- the first passes: so does one of both
pub or_left : (a b : Bool) → a ≡ true → (a || b) ≡ true
or_left a b p = rw p

-- the second passes: so does one of both
pub or_right : (a b : Bool) → b ≡ true → (a || b) ≡ true
or_right true b q = refl
or_right false b q = q

-- each fails: so does one of both
pub or_none : (a b : Bool) → a ≡ false → b ≡ false → (a || b) ≡ false
or_none a b p q = rw (p, q)

-- neither passes: the first fails
pub or_no_left : (a b : Bool) → (a || b) ≡ false → a ≡ false
or_no_left true b e = e
or_no_left false b e = refl

-- neither passes: the second fails
pub or_no_right : (a b : Bool) → (a || b) ≡ false → b ≡ false
or_no_right true b e = absurd (true≢false e)
or_no_right false b e = e

-- one of both passes: the first or the second
pub or_either : (a b : Bool) → (a || b) ≡ true → (a ≡ true) ⊎ (b ≡ true)
or_either true b e = inl refl
or_either false b e = inr e

-- EQUAL TESTS
-- two tests that pass together are one
pub same_test : (a b : Bool) → (a ≡ true → b ≡ true) → (b ≡ true → a ≡ true) → a ≡ b
same_test true true f g = refl
same_test true false f g = sym (f refl)
same_test false true f g = g refl
same_test false false f g = refl

-- a number equals itself
pub eqb_same : (n : ℕ) → eqb n n ≡ true
eqb_same n = eq-eqb n n refl

-- the test of two numbers does not see their order
pub eqb_sym : (m n : ℕ) → eqb m n ≡ eqb n m
eqb_sym m n = same_test (eqb m n) (eqb n m) (λ e. eq-eqb n m (sym (eqb-true m n e))) (λ e. eq-eqb m n (sym (eqb-true n m e)))

-- CHOICE
module _ {ℓ} {A : Type ℓ} where
  -- the test passes: the first
  pub cond_true : (b : Bool) (x y : A) → b ≡ true → cond b x y ≡ x
  cond_true b x y e = rw e

  -- the test fails: the second
  pub cond_false : (b : Bool) (x y : A) → b ≡ false → cond b x y ≡ y
  cond_false b x y e = rw e

  -- a choice between equals
  pub cond_same : (b : Bool) (x : A) → cond b x x ≡ x
  cond_same true x = refl
  cond_same false x = refl

  -- what holds of both branches holds of the choice
  pub cond_both {κ} : (P : A → Type κ) (b : Bool) (x y : A) → P x → P y → P (cond b x y)
  cond_both P true x y p q = p
  cond_both P false x y p q = q

-- a function goes into both branches
pub cond_ap {ℓ κ} : {A : Type ℓ} {B : Type κ} (f : A → B) (b : Bool) (x y : A) → f (cond b x y) ≡ cond b (f x) (f y)
cond_ap f true x y = refl
cond_ap f false x y = refl

-- a number or 0 is at most the number
pub cond_le : (b : Bool) (n : ℕ) → cond b n 0 ≤ n
cond_le true n = omega arith
cond_le false n = omega arith

-- THERE OR NOT
-- what is there is not nothing
pub some≢none {ℓ} : {A : Type ℓ} (a : A) → some a ≡ none → ⊥
some≢none {A} a e = let z : ◌≡◌ {A = ℕ} 0 1 = cc in omega arith

-- for `simp`: what a test's operations and a choice come to at a known side
pub ruleset Bool·simp = (cond_true, cond_false, and_no_left, and_both, or_left, or_none)
