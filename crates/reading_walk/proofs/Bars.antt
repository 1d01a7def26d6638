-- A PART'S MEASURES BY THEIR INDEX. Assumes nothing.
use Prim.Native.Nat.{ℕ, zero, suc, ◌≤◌, ◌<◌, max}
use mathlib.Core.Path.{◌≡◌, refl, sym, ap, ◌∙◌}
use mathlib.Core.Bool.{cond}
use mathlib.Core.Option.{none, some}
use mathlib.Core.List.{List, [], ◌∷◌, ◌++◌}
use native.Mathlib.Omega.{arith}
use lib.Dec.{ltb}
use lib.ListN.{length, drop, get_elem?, length-append}
use borrow.Author.Tests.{ltb-true, ltb-false}
use Rattle.laws.specs.Bytes.{u32_at}
use Rattle.laws.proofs.Bools.{by_test}
use Rattle.reading_walk.specs.Walk.{Bar, opens, top_of, top_before, limit_of, limit}
use Rattle.reading_walk.specs.Spans.{bar_at, first_bars, bars_of}

-- as many as the count says
first_length : (s : List ℕ) (at n : ℕ) → length (first_bars s at n) ≡ n
unfolding first_bars
first_length s at zero = refl
first_length s at (suc n) = length-append (first_bars s at n) (bar_at s at n ∷ []) ∙ omega (arith, first_length s at n)

pub length_bars : (s : List ℕ) (at : ℕ) → length (bars_of s at) ≡ u32_at s at
unfolding bars_of
length_bars s at = first_length s at (u32_at s at)

-- equal lists begin alike
heads : (c d : Bar) (l m : List Bar) → c ∷ l ≡ d ∷ m → c ≡ d
heads c d l m q = cc

-- from index i on, of a list with one more
drop_cons : (xs ys : List Bar) (i : ℕ) (b : Bar) → drop i xs ≡ b ∷ drop (suc i) xs → drop i (xs ++ ys) ≡ b ∷ drop (suc i) (xs ++ ys)
drop_cons [] ys zero b e = let z : ◌≡◌ {A = ℕ} 0 1 = cc in absurd (omega arith)
drop_cons [] ys (suc i) b e = let z : ◌≡◌ {A = ℕ} 0 1 = cc in absurd (omega arith)
drop_cons (x ∷ xs) ys zero b e = ap (λ (c : Bar). c ∷ (xs ++ ys)) (heads x b xs xs e)
drop_cons (x ∷ xs) ys (suc i) b e = drop_cons xs ys i b e

drop_at_end : (xs : List Bar) (b : Bar) → drop (length xs) (xs ++ (b ∷ [])) ≡ b ∷ drop (suc (length xs)) (xs ++ (b ∷ []))
drop_at_end [] b = refl
drop_at_end (x ∷ xs) b = drop_at_end xs b

first_there : (s : List ℕ) (at n i : ℕ) → i < n → drop i (first_bars s at n) ≡ bar_at s at i ∷ drop (suc i) (first_bars s at n)
unfolding first_bars
first_there s at zero i h = absurd (omega (arith, h))
first_there s at (suc n) i h =
    by_test (ltb i n) (λ l. drop_cons (first_bars s at n) (bar_at s at n ∷ []) i (bar_at s at i) (first_there s at n i (ltb-true i n l)))
    (λ l.
    let e : i ≡ length (first_bars s at n) = omega (arith, ltb-false i n l, h, first_length s at n) in
    let f : n ≡ i = omega (arith, ltb-false i n l, h) in
    ap (λ (k : ℕ). drop k (first_bars s at n ++ (bar_at s at n ∷ []))) e
    ∙ drop_at_end (first_bars s at n) (bar_at s at n)
    ∙ (λ j. bar_at s at (f j) ∷ drop (suc (sym e j)) (first_bars s at n ++ (bar_at s at n ∷ []))))

-- measure i stands at index i
pub bar_there : (s : List ℕ) (at i : ℕ) → i < u32_at s at → drop i (bars_of s at) ≡ bar_at s at i ∷ drop (suc i) (bars_of s at)
unfolding bars_of
bar_there s at i h = first_there s at (u32_at s at) i h

get_drop : (xs : List Bar) (i : ℕ) (b : Bar) (l : List Bar) → drop i xs ≡ b ∷ l → get_elem? xs i ≡ some b
get_drop [] zero b l e = let z : ◌≡◌ {A = ℕ} 0 1 = cc in absurd (omega arith)
get_drop [] (suc i) b l e = let z : ◌≡◌ {A = ℕ} 0 1 = cc in absurd (omega arith)
get_drop (x ∷ xs) zero b l e = ap some (heads x b xs l e)
get_drop (x ∷ xs) (suc i) b l e = get_drop xs i b l e

pub bar_get : (s : List ℕ) (at i : ℕ) → i < u32_at s at → get_elem? (bars_of s at) i ≡ some (bar_at s at i)
bar_get s at i h = get_drop (bars_of s at) i (bar_at s at i) (drop (suc i) (bars_of s at)) (bar_there s at i h)

get_none : (xs : List Bar) (i : ℕ) → length xs ≤ i → get_elem? xs i ≡ none
get_none [] i h = refl
get_none (x ∷ xs) zero h = absurd (omega (arith, h))
get_none (x ∷ xs) (suc i) h = get_none xs i (omega (arith, h))

pub bar_none : (s : List ℕ) (at i : ℕ) → u32_at s at ≤ i → get_elem? (bars_of s at) i ≡ none
bar_none s at i h = get_none (bars_of s at) i (omega (arith, h, length_bars s at))

drop_none : (xs : List Bar) (i : ℕ) → length xs ≤ i → drop i xs ≡ []
drop_none [] zero h = refl
drop_none [] (suc i) h = refl
drop_none (x ∷ xs) zero h = absurd (omega (arith, h))
drop_none (x ∷ xs) (suc i) h = drop_none xs i (omega (arith, h))

-- THE LIMIT BY INDEX: of a section start, and what is behind it up to the next measure that opens a section
abbrev pub top_from : List ℕ → ℕ → ℕ → ℕ
top_from s at i = top_before (drop i (bars_of s at))

pub limit_at : (s : List ℕ) (at i : ℕ) → i < u32_at s at → limit (bars_of s at) i ≡ max 2 (max (top_of (bar_at s at i).span) (top_from s at (suc i)))
unfolding limit limit_of
limit_at s at i h = ap limit_of (bar_there s at i h)

pub top_at_lem : (s : List ℕ) (at i : ℕ) → i < u32_at s at → top_from s at i ≡ cond (opens (bar_at s at i).left) 0 (max (top_of (bar_at s at i).span) (top_from s at (suc i)))
unfolding top_before
top_at_lem s at i h = ap top_before (bar_there s at i h)

pub top_none : (s : List ℕ) (at i : ℕ) → u32_at s at ≤ i → top_from s at i ≡ 0
unfolding top_before
top_none s at i h = ap top_before (drop_none (bars_of s at) i (omega (arith, h, length_bars s at)))
