-- Decimal digits: those that `io::decimal` writes are the definition's.
use Prim.Native.Nat.{ℕ, zero, suc, ◌+◌, ◌-◌, ◌/◌, ◌%◌, ◌^◌, ◌≤◌, ◌<◌}
use mathlib.Core.Path.{◌≡◌, sym, ap, ◌∙◌}
use mathlib.Core.List.{[], ◌∷◌, ◌++◌}
use native.Mathlib.Nat.{zero-lt-suc, one-le-pow, pow-le-pow_right, pow-suc, not-suc-le-zero}
use native.Mathlib.Omega.{arith}
use borrow.Author.Tests.{lt-ltb, le-ltb, leb-true, leb-false}
use lib.Dec.{ltb, leb}
use lib.ListN.{length, length-append}
use Rattle.laws.proofs.Bools.{by_test}
use Rattle.io.specs.Digits.{hex_digit_ascii, last_digits, IsDigitCount}
use Rattle.tally_text.specs.Printed.{digits_of, decimal}

-- a digit below 10
glyph_low : (d : ℕ) → d < 10 → hex_digit_ascii d ≡ 48 + d
glyph_low d h = rw (lt-ltb d 10 h)

-- one digit, or one behind the others
one_digit : (f n : ℕ) → n < 10 → digits_of (suc f) n ≡ (48 + n) ∷ []
unfolding digits_of
one_digit f n h = rw (lt-ltb n 10 h, digits_of)

more_digits : (f n : ℕ) → 10 ≤ n → digits_of (suc f) n ≡ digits_of f (n / 10) ++ ((48 + n % 10) ∷ [])
unfolding digits_of
more_digits f n h = rw (le-ltb n 10 h, digits_of)

shown : (k f n : ℕ) → k ≤ f → IsDigitCount 10 1 n k → last_digits 10 k n ≡ digits_of f n
shown zero f n l h = absurd (not-suc-le-zero h.0)
shown (suc k) zero n l h = absurd (not-suc-le-zero l)
shown (suc zero) (suc f) n l h =
    let m : n < 10 = omega (arith, h.1) in
    let e : n % 10 ≡ n = omega arith in
    ap (λ (d : ℕ). d ∷ []) (glyph_low (n % 10) (omega arith) ∙ ap (λ (d : ℕ). 48 + d) e) ∙ sym (one_digit f n m)
shown (suc (suc k)) (suc f) n l h =
    let p = pow-suc 10 k in
    let q = pow-suc 10 (suc k) in
    let z : suc (suc k) - 1 ≡ suc k = omega arith in
    let y : suc k - 1 ≡ k = omega arith in
    let lo : 10 ^ suc k ≤ n = rw z at (h.2 (omega arith)) in
    let pos : 0 < 10 ^ k = one-le-pow k 10 (omega arith) in
    let m : 10 ≤ n = omega (arith, p, lo, pos) in
    let rest : last_digits 10 (suc k) (n / 10) ≡ digits_of f (n / 10) =
    shown (suc k) f (n / 10) (omega arith) (omega arith, omega (arith, q, h.1), λ u. rw y (omega (arith, p, lo))) in
    (λ i. rest i ++ (glyph_low (n % 10) (omega arith) i ∷ [])) ∙ sym (more_digits f n m)

-- those that it writes
pub decimal_is : (k n : ℕ) → k ≤ 20 → IsDigitCount 10 1 n k → last_digits 10 k n ≡ decimal n
unfolding decimal
decimal_is k n h f = shown k 20 n h f

-- 20 at most
digits_most : (k n : ℕ) → length (digits_of k n) ≤ k
unfolding digits_of
digits_most zero n = omega arith
digits_most (suc k) n =
    by_test (ltb n 10) (λ e. rw (e, digits_of) (omega arith))
    (λ e. rw (e, digits_of) (omega (arith, length-append (digits_of k (n / 10)) ((48 + n % 10) ∷ []), digits_most k (n / 10))))

pub decimal_most : (n : ℕ) → length (decimal n) ≤ 20
unfolding decimal
decimal_most n = digits_most 20 n

-- a number of 64 bits has no more
pub few_digits : (k n : ℕ) → n < 18446744073709551616 → IsDigitCount 10 1 n k → k ≤ 20
few_digits k n h f =
    by_test (leb k 20) (λ e. leb-true k 20 e)
    (λ e.
    let l : 20 < k = leb-false k 20 e in
    let m : 20 ≤ k - 1 = omega arith in
    let p : 10 ^ 20 ≤ 10 ^ (k - 1) = pow-le-pow_right (zero-lt-suc 9) m in
    absurd (omega (arith, p, f.2 (omega arith), h)))
