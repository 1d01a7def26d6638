-- THE LIMITS OF A STRETCH, as the loop over its measures finds them: in plain numbers, and of a part.
use Prim.Native.Nat.{ℕ, suc, ◌≤◌, ◌<◌, max}
use mathlib.Core.Path.{◌≡◌, ◌∙◌}
use mathlib.Core.Bool.{true, false, cond}
use mathlib.Core.List.{List}
use native.Mathlib.Omega.{arith}
use native.Mathlib.Nat.{le_antisymm}
use lib.Dec.{leb, ltb}
use borrow.Author.Tests.{ltb-true, ltb-false, leb-true, leb-false}
use Rattle.laws.specs.Bytes.{u32_at}
use Rattle.laws.proofs.Bools.{by_test}
use Rattle.reading_walk.specs.Walk.{opens, top_of, limit}
use Rattle.reading_walk.specs.Spans.{bar_at, bars_of}
use Rattle.reading_walk.proofs.Bars.{top_from, limit_at, top_at_lem}

-- Measures from `start` to just before i are seen, ahead of i the greatest pass up to the next section start is `ahead`: L is the limit of every place between them,
-- as far as `most` and `end` say.
pub record Seen (L : ℕ → ℕ) (start i most end ahead : ℕ) : Type 0 where
  pub begun : start ≤ i
  pub two : 2 ≤ most
  pub inside : end ≤ i
  pub none : i ≤ start → most ≤ 2
  pub some : start < i → start < end
  pub low : (t : ℕ) → start ≤ t → t < i → max 2 ahead ≤ L t
  pub high : (t : ℕ) → start ≤ t → t < i → L t ≤ max most ahead
  pub known : (t : ℕ) → start ≤ t → t < end → L t ≡ max most ahead

module _ (L : ℕ → ℕ) (start : ℕ) where
  -- at the start
  pub seen_none : (ahead : ℕ) → Seen L start start 2 start ahead
  seen_none ahead =
      record {
        begun = omega arith;
        two = omega arith;
        inside = omega arith;
        none = λ h. omega arith;
        some = λ h. absurd (omega (arith, h));
        low = λ t p q. absurd (omega (arith, p, q));
        high = λ t p q. absurd (omega (arith, p, q));
        known = λ t p q. absurd (omega (arith, p, q));
      }

  -- measure i, whose greatest pass is `top`; it begins no section, or is the start
  module _ (i most end top ahead next : ℕ) (goes : start < i → ahead ≡ max top next) (here : L i ≡ max 2 (max top next)) (seen : Seen L start i most end ahead) where
    -- of a place up to i: what holds below i and at i
    up_to : (P : ℕ → Type 0) → ((t : ℕ) → start ≤ t → t < i → P t) → P i → (t : ℕ) → start ≤ t → t < suc i → P t
    up_to P f g t p q = by_test (ltb t i) (λ l. f t p (ltb-true t i l)) (λ l. let e : t ≡ i = omega (arith, q, ltb-false t i l) in rw e g)

    low_more : (t : ℕ) → start ≤ t → t < suc i → max 2 next ≤ L t
    low_more = up_to (λ t. max 2 next ≤ L t) (λ t p q. omega (arith, seen.low t p q, goes (omega (arith, p, q)))) (omega (arith, here))

    high_more : (t : ℕ) → start ≤ t → t < suc i → L t ≤ max (max most top) next
    high_more = up_to (λ t. L t ≤ max (max most top) next) (λ t p q. omega (arith, seen.high t p q, goes (omega (arith, p, q)))) (omega (arith, here, seen.two))

    -- no measure before it has a greater pass: all limits are the same
    raised_low : most ≤ max 2 top → (t : ℕ) → start ≤ t → t < suc i → max (max most top) next ≤ L t
    raised_low m = up_to (λ t. max (max most top) next ≤ L t) (λ t p q. omega (arith, m, seen.low t p q, goes (omega (arith, p, q)))) (omega (arith, m, here))

    all_known : most ≤ max 2 top → (t : ℕ) → start ≤ t → t < suc i → L t ≡ max (max most top) next
    all_known m t p q = le_antisymm (high_more t p q) (raised_low m t p q)

    pub seen_more : Seen L start (suc i) (max most top) (cond (leb most (max 2 top)) (suc i) end) next
    seen_more =
        by_test (leb most (max 2 top))
        (λ y. rw y
        (record {
          begun = omega (arith, seen.begun);
          two = omega (arith, seen.two);
          inside = omega arith;
          none = λ h. absurd (omega (arith, h, seen.begun));
          some = λ h. h;
          low = low_more;
          high = high_more;
          known = all_known (leb-true most (max 2 top) y);
        }))
        (λ y.
        let m : max 2 top < most = leb-false most (max 2 top) y in
        let after : start < i = start_behind m in
        rw y
        (record {
          begun = omega (arith, seen.begun);
          two = omega (arith, seen.two);
          inside = omega (arith, seen.inside);
          none = λ h. absurd (omega (arith, h, seen.begun));
          some = λ h. seen.some after;
          low = low_more;
          high = high_more;
          known = λ t p q. omega (arith, m, seen.known t p q, goes after);
        }))
      where
        start_behind : max 2 top < most → start < i
        start_behind m = by_test (ltb start i) (λ l. ltb-true start i l) (λ l. absurd (omega (arith, m, seen.none (ltb-false start i l))))

  -- at the end of the stretch
  pub seen_all : (i most end : ℕ) → Seen L start i most end 0 → (t : ℕ) → start ≤ t → t < end → L t ≡ most
  seen_all i most end seen t p q = omega (arith, seen.known t p q, seen.two)

-- OF THE PART at `at`
module _ (s : List ℕ) (at start i most end : ℕ) (seen : Seen (limit (bars_of s at)) start i most end (top_from s at i)) where
  -- measure i is seen
  pub part_more : (top : ℕ) → i < u32_at s at → top ≡ top_of (bar_at s at i).span → (start < i → opens (bar_at s at i).left ≡ false)
      → Seen (limit (bars_of s at)) start (suc i) (max most top) (cond (leb most (max 2 top)) (suc i) end) (top_from s at (suc i))
  part_more top h e shut =
      seen_more (limit (bars_of s at)) start i most end top (top_from s at i) (top_from s at (suc i)) goes (rw e (limit_at s at i h)) seen
    where
      goes : start < i → top_from s at i ≡ max top (top_from s at (suc i))
      goes l = top_at_lem s at i h ∙ rw (shut l, e)

  -- the stretch ends before it
  pub part_all : top_from s at i ≡ 0 → (t : ℕ) → start ≤ t → t < end → limit (bars_of s at) t ≡ most
  part_all z = seen_all (limit (bars_of s at)) start i most end (rw z at seen)

-- as it does before a measure that begins a section
pub top_open : (s : List ℕ) (at i : ℕ) → i < u32_at s at → opens (bar_at s at i).left ≡ true → top_from s at i ≡ 0
top_open s at i h o = top_at_lem s at i h ∙ rw o
