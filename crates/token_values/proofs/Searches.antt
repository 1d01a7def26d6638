-- The search: its loops go through `in_order outward` and count the values that fit, which tells the longest of them. The bound on the parts leaves the answer as it is.
use Prim.Native.Nat.{ℕ, suc, ◌+◌, ◌-◌, ◌*◌, ◌^◌, ◌≤◌, ◌<◌, min}
use mathlib.Core.Path.{◌≡◌, refl, sym, ap, ◌∙◌}
use mathlib.Core.Bool.{Bool, true, cond, ◌&&◌}
use mathlib.Core.List.{List, [], ◌∷◌, map}
use native.Mathlib.Nat.{zero-add, mul-le-mul_right}
use native.Mathlib.Omega.{arith}
use lib.Dec.{leb, ltb, eqb}
use lib.ListN.{length, get_or, drop}
use borrow.Author.Tests.{leb-true, le-leb, lt-leb, ltb-true, eqb-true, eq-eqb, ne_eqb}
use Rattle.laws.specs.Lists.{all, sum}
use Rattle.laws.proofs.Bools.{by_test, and_left, and_right, and_no_right, same_test}
use Rattle.laws.proofs.Finite.{below, below₂}
use Rattle.laws.proofs.Lists.{drop_next, sum_concat, sum_same, sum_map}
use Rattle.standard.specs.Lengths.{Value, ticks, ten_values, with_dots, forty}
use Rattle.reader.specs.Lengths.{quarter_note, longa, not_above, written_as}
use Rattle.reader.specs.Search.{dots_up, in_order, outward}
use Rattle.reader.proofs.ValueLaws.{is_written, is_written_lem, falling, forty_falling}
use Rattle.token_lengths.specs.Values.{written}
use Rattle.token_values.specs.Found.{fraction}
use Rattle.token_values.proofs.Sizes.{size_pos, bounded_leb}

-- THE FORTY AS THE LOOPS GO: the k-th value from the eighth outward, with d dots, stands at 4 k + d
abbrev pub nth : ℕ → ℕ
nth k = get_or outward k 0

pub nth_lt : (k : ℕ) → k < 10 → nth k < 10
nth_lt k h = ltb-true _ _ (below 10 (λ k. ltb (nth k) 10) refl k h)

stands : ℕ → ℕ → Bool
stands k d = is_written (nth k) d (get_or (in_order outward) (4 * k + d) longa)

all_stand : (k d : ℕ) → k < 10 → d < 4 → stands k d ≡ true
unfolding stands in_order
all_stand k d hk hd = below₂ 10 4 stands refl k d hk hd

in_order_length : length (in_order outward) ≡ 40
unfolding in_order
in_order_length = refl

front : (k d : ℕ) → k < 10 → d < 4 → drop (4 * k + d) (in_order outward) ≡ written (nth k) d ∷ drop (4 * k + (d + 1)) (in_order outward)
unfolding stands
front k d hk hd =
    let next : 4 * k + (d + 1) ≡ 4 * k + d + 1 = omega arith in
    let there = is_written_lem (nth k) d (get_or (in_order outward) (4 * k + d) longa) (all_stand k d hk hd) in
    rw next (drop_next (in_order outward) (4 * k + d) longa (omega (arith, in_order_length)) ∙ ap (λ (w : Value). w ∷ drop (4 * k + d + 1) (in_order outward)) there)

-- HOW MANY FIT: are not above a / b 1024ths of a whole note
module _ (a b : ℕ) where
  abbrev one : Value → ℕ
  one w = cond (leb (ticks w * b) a) 1 0

  pub fits : List Value → ℕ
  fits ws = sum one ws

  fits_le : (ws : List Value) → fits ws ≤ length ws
  unfolding fits
  fits_le [] = omega arith
  fits_le (w ∷ ws) = let r = fits_le ws in by_test (leb (ticks w * b) a) (λ e. rw e (omega arith)) (λ e. rw e (omega arith))

  -- of a value's four, in whatever order its dots come
  four : ℕ → ℕ
  four v = sum one (dots_up v)

  four_down : (v : ℕ) → sum one (with_dots v) ≡ four v
  unfolding four with_dots
  four_down v = omega arith

  -- as many in the order of the search as from the longest down
  same_count : fits (in_order outward) ≡ fits forty
  unfolding fits four in_order forty ten_values
  same_count =
      let up : sum one (in_order outward) ≡ sum four outward = sum_concat one (map dots_up outward) ∙ sum_map dots_up (sum one) outward in
      let down : sum one forty ≡ sum four ten_values =
      sum_concat one (map with_dots ten_values) ∙ sum_map with_dots (sum one) ten_values ∙ sum_same (λ v. sum one (with_dots v)) four four_down ten_values in
      omega (arith, up, down)

  -- what is shorter than one that fits fits
  shorter_fit : (w : Value) (ws : List Value) → ticks w * b ≤ a → all (λ x. ltb (ticks x) (ticks w)) ws ≡ true → fits ws ≡ length ws
  unfolding fits
  shorter_fit w [] h s = refl
  shorter_fit w (x ∷ ws) h s =
      let less = ltb-true (ticks x) (ticks w) (and_left (ltb (ticks x) (ticks w)) (all (λ x. ltb (ticks x) (ticks w)) ws) s) in
      let up : ticks x * b ≤ ticks w * b = mul-le-mul_right b (omega arith) in
      let r = shorter_fit w ws h (and_right (ltb (ticks x) (ticks w)) (all (λ x. ltb (ticks x) (ticks w)) ws) s) in
      rw (le-leb (ticks x * b) a (omega arith)) (omega arith)

  -- so of values from the longest down those that fit stand last, and how many they are tells the first of them
  by_count : (ws : List Value) → falling ws ≡ true → not_above ws a b ≡ get_or ws (length ws - fits ws) quarter_note
  unfolding not_above falling fits
  by_count [] s = refl
  by_count (w ∷ ws) s =
      let longest = and_left (all (λ x. ltb (ticks x) (ticks w)) ws) (falling ws) s in
      let r = by_count ws (and_right (all (λ x. ltb (ticks x) (ticks w)) ws) (falling ws) s) in
      by_test (leb (ticks w * b) a)
      (λ e. let none_before : suc (length ws) - (1 + fits ws) ≡ 0 = omega (arith, shorter_fit w ws (leb-true _ _ e) longest) in
      rw (e, not_above, none_before))
      (λ e. let one-before : suc (length ws) - fits ws ≡ suc (length ws - fits ws) = omega (arith, fits_le ws) in
      rw (e, not_above, zero-add (fits ws), one-before) r)

-- THE SEARCH WITH i TRIED: those counted so far, and those to come, are all that fit
pub record Counting (a b i n : ℕ) : Type 0 where
  pub same : n + fits a b (drop i (in_order outward)) ≡ fits a b (in_order outward)

pub counting_start : (a b : ℕ) → Counting a b 0 0
counting_start a b = record { same = zero-add (fits a b (in_order outward)) }

module _ (a b i n : ℕ) (r : Counting a b i n) where
  pub count_le : n ≤ 40
  count_le = omega (arith, r.same, fits_le a b (in_order outward), in_order_length)

  -- all are tried
  pub count_over : i ≡ 40 → n ≡ fits a b (in_order outward)
  unfolding in_order fits
  count_over e = omega (arith, rw e at r.same)

module _ (a b k d n : ℕ) (r : Counting a b (4 * k + d) n) (hk : k < 10) (hd : d < 4) where
  at_front : n + fits a b (written (nth k) d ∷ drop (4 * k + (d + 1)) (in_order outward)) ≡ fits a b (in_order outward)
  at_front = rw (front k d hk hd) at r.same

  pub count_below : ticks (written (nth k) d) * b < a → Counting a b (4 * k + (d + 1)) (n + 1)
  unfolding fits
  count_below h =
      let fit : ticks (written (nth k) d) * b ≤ a = omega arith in
      record { same = omega (arith, rw (le-leb _ _ fit) at at_front) }

  pub count_above : a < ticks (written (nth k) d) * b → Counting a b (4 * k + (d + 1)) n
  unfolding fits
  count_above h = record { same = omega (arith, rw (lt-leb _ _ h) at at_front) }

-- none meets the length: the longest that fits
forty_length : length forty ≡ 40
unfolding forty ten_values with_dots
forty_length = refl

pub written_count : (num parts n : ℕ) → 0 < parts → n ≡ fits (num * 1024) parts (in_order outward) → written_as (fraction num parts) ≡ get_or forty (40 - n) quarter_note
unfolding written_as
written_count num parts n some e =
    let place : length forty - fits (num * 1024) parts forty ≡ 40 - n = omega (arith, forty_length, same_count (num * 1024) parts) in
    rw (and_no_right (eqb num 0) (eqb parts 0) (ne_eqb parts 0 (λ z. omega arith)), written_as) (by_count (num * 1024) parts forty forty_falling ∙ ap (λ (m : ℕ). get_or forty m quarter_note) place)

-- THE BOUND: parts past 2 ^ 43 are as good as 2 ^ 43
not_above_bounded : (ws : List Value) (a b : ℕ) → a < 2 ^ 43 → not_above ws a b ≡ not_above ws a (min b (2 ^ 43))
unfolding not_above
not_above_bounded [] a b h = refl
not_above_bounded (w ∷ ws) a b h =
    let r = not_above_bounded ws a b h in
    let e : leb (ticks w * b) a ≡ leb (ticks w * min b (2 ^ 43)) a = bounded_leb (ticks w) a b (size_pos w) h in
    by_test (leb (ticks w * min b (2 ^ 43)) a) (λ q. rw (e ∙ q, q, not_above)) (λ q. rw (e ∙ q, q, not_above) r)

pub written_bounded : (num parts : ℕ) → num < 2 ^ 32 → written_as (fraction num (min parts (2 ^ 43))) ≡ written_as (fraction num parts)
unfolding written_as
written_bounded num parts small =
    let l = min parts (2 ^ 43) in
    let e : eqb l 0 ≡ eqb parts 0 = same_test _ _ (λ z. eq-eqb parts 0 (omega (arith, eqb-true l 0 z))) (λ z. eq-eqb l 0 (omega (arith, eqb-true parts 0 z))) in
    let f : (eqb num 0 && eqb l 0) ≡ (eqb num 0 && eqb parts 0) = ap (λ b. eqb num 0 && b) e in
    by_test (eqb num 0 && eqb parts 0) (λ z. rw (z, f ∙ z, written_as)) (λ z. rw (z, f ∙ z, written_as) (sym (not_above_bounded forty (num * 1024) parts (omega arith))))
