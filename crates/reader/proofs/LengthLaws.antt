-- LENGTHS BY THEIR SLASHES (document 02, T-04): none, one, or two and more; where both editions read the same length; and what holds of every token with a length.
use Prim.Native.Nat.{ℕ, zero, suc, ◌+◌, ◌^◌, ◌≤◌}
use mathlib.Core.Path.{◌≡◌, refl, sym, ap, subst, ◌∙◌}
use mathlib.Core.Bool.{true, false}
use mathlib.Core.List.{List, [], ◌∷◌}
use native.Mathlib.Omega.{arith}
use lib.Dec.{ltb}
use lib.ListN.{length, drop, length-drop}
use borrow.Author.Tests.{eqb-true}
use Rattle.laws.specs.Lists.{count_while}
use Rattle.laws.proofs.Bools.{by_test}
use Rattle.laws.proofs.Spans.{count_while_yes, count_while_no, count_while_le}
use Rattle.standard.specs.Bytes.{is, is_digit, first}
use Rattle.editions.specs.declared.Edition.{Edition}
use Rattle.editions.specs.declared.Edition.TheVariants.{First, Second}
use Rattle.reader.specs.Lengths.{Length, number, slashes, length_over, length_of, two_slashes, many_slashes}
use Rattle.reader.specs.Token.{refused, Taken, taken}
use Rattle.reader.specs.Sounds.{with_length}

-- HOW MANY SLASHES COUNT; r stands behind the numerator
pub no_slash : (ed : Edition) (r : List ℕ) → is "/" (first r) ≡ false → slashes ed r ≡ 0
unfolding slashes
no_slash First r e = rw e
no_slash Second [] e = refl
no_slash Second (c ∷ r) e = count_while_no (is "/") c r e

pub first_slash : (r : List ℕ) → is "/" (first r) ≡ true → slashes First r ≡ 1
unfolding slashes
first_slash r e = rw e

pub lone_slash : (ed : Edition) (r : List ℕ) → is "/" (first r) ≡ true → is "/" (first (drop 1 r)) ≡ false → slashes ed r ≡ 1
unfolding slashes
lone_slash First r e f = rw e
lone_slash Second [] e f = absurd (let z : ◌≡◌ {A = ℕ} 0 47 = eqb-true 0 47 e in omega (arith, z))
lone_slash Second (c ∷ r) e f = count_while_yes (is "/") c r e ∙ ap suc (no_slash Second r f)

pub slashes_in : (ed : Edition) (r : List ℕ) → slashes ed r ≤ length r
unfolding slashes
slashes_in First [] = omega arith
slashes_in First (c ∷ r) = by_test (is "/" c) (λ e. rw e (omega arith)) (λ e. rw e (omega arith))
slashes_in Second r = count_while_le (is "/") r

-- THE LENGTH, by how many count
pub length_by : (ed : Edition) (s : List ℕ) (k : ℕ) → slashes ed (drop (count_while is_digit s) s) ≡ k → length_of ed s ≡ length_over (number 1 (count_while is_digit s) s) (count_while is_digit s) k (drop (count_while is_digit s + k) s)
unfolding length_of
length_by ed s k e = rw e

-- and 22 by the same
pub many_by : (ed : Edition) (s : List ℕ) (k : ℕ) → slashes ed (drop (count_while is_digit s) s) ≡ k → many_slashes ed s ≡ ltb 31 k
unfolding many_slashes
many_by ed s k e = rw e

-- two slashes and more
pub over_many : (num n k : ℕ) (s : List ℕ) → 2 ≤ k → length_over num n k s ≡ record { num = num; den = 2 ^ k; used = n + k }
unfolding length_over
over_many num n zero s h = absurd (omega (arith, h))
over_many num n (suc zero) s h = absurd (omega (arith, h))
over_many num n (suc (suc k)) s h = refl

-- it takes no more than is there
over_in : (num n k : ℕ) (s : List ℕ) → (length_over num n k s).used ≤ n + k + length s
unfolding length_over
over_in num n zero s = omega arith
over_in num n (suc zero) s = omega (arith, count_while_le is_digit s)
over_in num n (suc (suc k)) s = omega arith

pub length_in_lem : (ed : Edition) (s : List ℕ) → (length_of ed s).used ≤ length s
unfolding length_of
length_in_lem ed s =
    let n = count_while is_digit s in
    let k = slashes ed (drop n s) in
    omega (arith, over_in (number 1 n s) n k (drop (n + k) s), length-drop (n + k) s, slashes_in ed (drop n s), length-drop n s, count_while_le is_digit s)

-- BOTH EDITIONS: without two slashes in a row they read the same length, and 22 is not met
same_slashes : (s : List ℕ) → two_slashes s ≡ false → slashes First (drop (count_while is_digit s) s) ≡ slashes Second (drop (count_while is_digit s) s)
same_slashes s h =
    let r = drop (count_while is_digit s) s in
    by_test (is "/" (first r)) (λ e. let f : is "/" (first (drop 1 r)) ≡ false = rw e at h in first_slash r e ∙ sym (lone_slash Second r e f)) (λ e. no_slash First r e ∙ sym (no_slash Second r e))

pub same_length : (s : List ℕ) → two_slashes s ≡ false → length_of First s ≡ length_of Second s
unfolding length_of
same_length s h = let n = count_while is_digit s in ap (λ (k : ℕ). length_over (number 1 n s) n k (drop (n + k) s)) (same_slashes s h)

-- the first edition never meets 22
pub never_many : (s : List ℕ) → many_slashes First s ≡ false
unfolding many_slashes slashes
never_many s = by_test (is "/" (first (drop (count_while is_digit s) s))) (λ e. rw e) (λ e. rw e)

pub same_many : (s : List ℕ) → two_slashes s ≡ false → many_slashes First s ≡ many_slashes Second s
unfolding many_slashes
same_many s h = ap (λ (k : ℕ). ltb 31 k) (same_slashes s h)

-- A TOKEN WITH A LENGTH: refusal 22, or the token with its length
pub with_many : (ed : Edition) (end : ℕ) (s : List ℕ) (f : Length → Taken) → many_slashes ed s ≡ true → with_length ed end s f ≡ taken (refused 22) end
unfolding with_length
with_many ed end s f m = rw (m, with_length)

pub with_few : (ed : Edition) (end : ℕ) (s : List ℕ) (f : Length → Taken) → many_slashes ed s ≡ false → with_length ed end s f ≡ f (length_of ed s)
unfolding with_length
with_few ed end s f m = rw (m, with_length)

-- what holds of both holds of it
pub with_length_lem : (P : Taken → Type 0) (ed : Edition) (end : ℕ) (s : List ℕ) (f : Length → Taken) → (many_slashes ed s ≡ true → P (taken (refused 22) end)) → (many_slashes ed s ≡ false → P (f (length_of ed s)))
    → P (with_length ed end s f)
with_length_lem P ed end s f a b = by_test (many_slashes ed s) (λ e. subst P (sym (with_many ed end s f e)) (a e)) (λ e. subst P (sym (with_few ed end s f e)) (b e))

-- and in both editions it is the same where the length is
pub with_same_length : (end : ℕ) (s : List ℕ) (f : Length → Taken) → two_slashes s ≡ false → with_length First end s f ≡ with_length Second end s f
unfolding with_length
with_same_length end s f h = λ i. elim (same_many s h i) [ true ↦ taken (refused 22) end | false ↦ f (same_length s h i) ]
