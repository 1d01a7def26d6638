-- Texts of digits: how far they reach, what they write, and that nothing in them is white space or a separator.
use Prim.Native.Nat.{ℕ, suc, ◌+◌, ◌-◌, ◌*◌, ◌≤◌, ◌<◌}
use mathlib.Core.Path.{◌≡◌, refl, ap, ◌∙◌}
use mathlib.Core.Bool.{Bool, true, false, cond, not, ◌&&◌, false≢true}
use mathlib.Core.Option.{none, some}
use mathlib.Core.List.{List, [], ◌∷◌, ◌++◌}
use native.Mathlib.Nat.{not-suc-le-zero}
use native.Mathlib.Omega.{arith}
use lib.Dec.{eqb, leb}
use lib.ListN.{length, drop}
use borrow.Author.Tests.{eqb-true, le-leb, lt-leb, leb-true}
use Rattle.laws.specs.Lists.{all, is_nil, count_while}
use Rattle.laws.proofs.Bools.{by_test, both_true, and_left, and_right, or_none, and_no_right, eqb_same}
use Rattle.laws.proofs.Spans.{count_while_yes}
use Rattle.standard.specs.Bytes.{is_digit, decimal, digits}
use Rattle.reader.specs.Text.{is_space, within}
use Rattle.reader.specs.Pieces.{numeral, before, after, pieces, separator, trim_start, cons_trim, trim_end, trimmed}

-- a digit is from 48 to 57
pub digit_low : (c : ℕ) → is_digit c ≡ true → 48 ≤ c
digit_low c e = leb-true 48 c (and_left (leb 48 c) (leb c 57) e)

pub digit_high : (c : ℕ) → is_digit c ≡ true → c ≤ 57
digit_high c e = leb-true c 57 (and_right (leb 48 c) (leb c 57) e)

-- more digits write no smaller number
pub decimal_grows : (n : ℕ) (s : List ℕ) → n ≤ decimal n s
unfolding decimal
decimal_grows n [] = omega arith
decimal_grows n (c ∷ s) = omega (arith, decimal_grows (n * 10 + (c - 48)) s)

-- a digit is no byte that is no digit
pub digit_not : (c x : ℕ) → is_digit c ≡ true → is_digit x ≡ false → eqb c x ≡ false
digit_not c x d n = by_test (eqb c x) (λ e. absurd (both_true (is_digit x) (rw (eqb-true c x e) at d) n)) (λ e. e)

-- nor white space
pub digit_solid : (c : ℕ) → is_digit c ≡ true → is_space c ≡ false
digit_solid c d =
    let low = digit_low c d in
    or_none (within 9 13 c) (eqb c 32) (and_no_right (leb 9 c) (leb c 13) (lt-leb c 13 (omega arith))) (digit_not c 32 d refl)

-- a run of one kind before what is not
pub count_while_front : (p : ℕ → Bool) (d t : List ℕ) → all p d ≡ true → count_while p t ≡ 0 → count_while p (d ++ t) ≡ length d
count_while_front p [] t a h = h
count_while_front p (c ∷ d) t a h = count_while_yes p c (d ++ t) (and_left (p c) (all p d) a) ∙ ap suc (count_while_front p d t (and_right (p c) (all p d) a) h)

-- what stands behind d and a byte
pub drop_behind : (d : List ℕ) (x : ℕ) (t : List ℕ) → drop (suc (length d)) (d ++ (x ∷ t)) ≡ t
drop_behind [] x t = refl
drop_behind (c ∷ d) x t = drop_behind d x t

-- what digits write, if it is at most top
pub digits_by : (top : ℕ) (d : List ℕ) → 0 < length d → all is_digit d ≡ true → digits top d ≡ cond (leb (decimal 0 d) top) (some (decimal 0 d)) none
unfolding digits
digits_by top [] h a = absurd (not-suc-le-zero h)
digits_by top (c ∷ d) h a = by_test (leb (decimal 0 (c ∷ d)) top) (λ q. rw (a, q, digits)) (λ q. rw (a, q, digits))

pub digits_some : (top : ℕ) (d : List ℕ) → 0 < length d → all is_digit d ≡ true → decimal 0 d ≤ top → digits top d ≡ some (decimal 0 d)
digits_some top d h a l = digits_by top d h a ∙ rw (le-leb (decimal 0 d) top l)

-- a text with another byte in it writes nothing
pub digits_other : (top : ℕ) (s : List ℕ) → all is_digit s ≡ false → digits top s ≡ none
unfolding digits
digits_other top [] h = refl
digits_other top (c ∷ s) h = rw (h, digits)

-- it is never above
pub digits_le : (top : ℕ) (s : List ℕ) (v : ℕ) → digits top s ≡ some v → v ≤ top
unfolding digits
digits_le top s v e =
    by_test (not (is_nil s) && all is_digit s && leb (decimal 0 s) top)
    (λ t. let k : some (decimal 0 s) ≡ some v = rw (t, digits) at e in
    let q : decimal 0 s ≡ v = cc in
    omega (arith, leb-true (decimal 0 s) top (and_right (not (is_nil s) && all is_digit s) (leb (decimal 0 s) top) t)))
    (λ t. let k : none ≡ some v = rw (t, digits) at e in let z : ◌≡◌ {A = ℕ} 0 1 = cc in absurd (omega arith))

-- the same with a plus sign allowed
pub numeral_some : (top : ℕ) (d : List ℕ) → 0 < length d → all is_digit d ≡ true → decimal 0 d ≤ top → numeral top d ≡ some (decimal 0 d)
unfolding numeral
numeral_some top [] h a l = absurd (not-suc-le-zero h)
numeral_some top (c ∷ d) h a l = rw (digit_not c 43 (and_left (is_digit c) (all is_digit d) a) refl, numeral) (digits_some top (c ∷ d) h a l)

-- A TEXT WITHOUT WHITE SPACE is trimmed
solid_end : (s : List ℕ) → all (λ c. not (is_space c)) s ≡ true → trim_end s ≡ s
unfolding trim_end cons_trim
solid_end [] a = refl
solid_end (c ∷ []) a = by_test (is_space c) (λ e. absurd (false≢true (rw e at a))) (λ e. rw e)
solid_end (c ∷ d ∷ s) a =
    ap (cons_trim c) (solid_end (d ∷ s) (and_right (not (is_space c)) (all (λ c. not (is_space c)) (d ∷ s)) a))

-- at neither end
pub solid_trimmed : (s : List ℕ) → all (λ c. not (is_space c)) s ≡ true → trimmed s ≡ s
unfolding trimmed trim_start
solid_trimmed [] a = solid_end [] a
solid_trimmed (c ∷ s) a = by_test (is_space c) (λ e. absurd (false≢true (rw e at a))) (λ e. rw (e, trim_start) (solid_end (c ∷ s) a))

-- digits have none
pub digits_solid : (d : List ℕ) → all is_digit d ≡ true → all (λ c. not (is_space c)) d ≡ true
digits_solid [] a = refl
digits_solid (c ∷ d) a = rw (digit_solid c (and_left (is_digit c) (all is_digit d) a)) (digits_solid d (and_right (is_digit c) (all is_digit d) a))

-- BEFORE AND AFTER A MARK that is no digit
module _ (x : ℕ) (n : is_digit x ≡ false) where
  -- the byte is the separator
  abbrev at : ℕ → Bool
  at c = eqb c x

  -- what stands before it: the digits
  pub before_digits : (d t : List ℕ) → all is_digit d ≡ true → before at (d ++ (x ∷ t)) ≡ d
  unfolding before
  before_digits [] t a = rw (eqb_same x, before)
  before_digits (c ∷ d) t a =
      rw (digit_not c x (and_left (is_digit c) (all is_digit d) a) n, before) (ap (λ (r : List ℕ). c ∷ r) (before_digits d t (and_right (is_digit c) (all is_digit d) a)))

  -- all of them, where there is no separator
  pub before_all : (d : List ℕ) → all is_digit d ≡ true → before at d ≡ d
  unfolding before
  before_all [] a = refl
  before_all (c ∷ d) a =
      rw (digit_not c x (and_left (is_digit c) (all is_digit d) a) n, before) (ap (λ (r : List ℕ). c ∷ r) (before_all d (and_right (is_digit c) (all is_digit d) a)))

  -- what stands after it
  pub after_digits : (d t : List ℕ) → all is_digit d ≡ true → after at (d ++ (x ∷ t)) ≡ some t
  unfolding after
  after_digits [] t a = rw (eqb_same x, after)
  after_digits (c ∷ d) t a = rw (digit_not c x (and_left (is_digit c) (all is_digit d) a) n, after) (after_digits d t (and_right (is_digit c) (all is_digit d) a))

  -- PIECES between such separators: digits alone are one
  pub pieces_digits : (d : List ℕ) → all is_digit d ≡ true → pieces (separator at) 0 d ≡ d ∷ []
  unfolding pieces
  pieces_digits [] a = refl
  pieces_digits (c ∷ d) a = rw (digit_not c x (and_left (is_digit c) (all is_digit d) a) n, pieces) (rw (pieces_digits d (and_right (is_digit c) (all is_digit d) a)))

  -- and the first of two or more
  pub pieces_two : (d t : List ℕ) → all is_digit d ≡ true → pieces (separator at) 0 (d ++ (x ∷ t)) ≡ d ∷ pieces (separator at) 0 t
  unfolding pieces
  pieces_two [] t a = rw (eqb_same x, pieces)
  pieces_two (c ∷ d) t a = rw (digit_not c x (and_left (is_digit c) (all is_digit d) a) n, pieces) (rw (pieces_two d t (and_right (is_digit c) (all is_digit d) a)))
