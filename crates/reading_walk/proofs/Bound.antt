-- HOW LONG A LIST CAN BE, and what stands in it. Assumes nothing.
use Prim.Native.Nat.{ℕ, zero, suc, ◌+◌, ◌-◌, ◌*◌, ◌≤◌, ◌<◌}
use mathlib.Core.Path.{◌≡◌, refl, sym, ap, subst, ◌∙◌}
use mathlib.Core.Option.{Option, none, some}
use mathlib.Core.List.{List}
use native.Mathlib.Nat.{suc-mul, mul-suc}
use native.Mathlib.Omega.{arith}
use lib.ListN.{length, get_elem?, length-append}
use Rattle.laws.specs.Lists.{All}
use Rattle.laws.proofs.Bools.{by_test}
use Rattle.laws.proofs.Lists.{All-append}
use Rattle.reading_walk.specs.Walk.{Bar, Place, is_skipped, begin, next, listed, walk, later, rank, played_from, played}
use Rattle.reading_walk.proofs.Ends.{Stands, begin_stands, step, there, after, walk_after}

-- a measure lists one number at the most
listed_one : (w : Place) (b : Bar) → length (listed w b) ≤ 1
unfolding listed
listed_one w b = by_test (is_skipped b.span w.pass) (λ e. rw e (omega arith)) (λ e. rw e (omega arith))

-- so a list is no longer than the rank
walk_short : (bars : List Bar) (k : ℕ) (w : Place) → Stands w → length (walk bars k w) ≤ rank bars w
unfolding walk after
walk_short bars zero w h = omega arith
walk_short bars (suc k) w h =
    subst (λ (l : List ℕ). length l ≤ rank bars w) (sym (walk_after bars k w)) (go (get_elem? bars w.at) refl (λ v s. walk_short bars k v s))
  where
    go : (o : Option Bar) → get_elem? bars w.at ≡ o → ((v : Place) → Stands v → length (walk bars k v) ≤ rank bars v) → length (after bars k w o) ≤ rank bars w
    go none e ih = omega arith
    go (some b) e ih =
        let d = step bars w b h (there bars w.at b e) in
        omega (arith, listed_one w b, length-append (listed w b) (walk bars k (next bars w b)), ih (next bars w b) d.0, d.1)

-- in closed form
later_closed : (n : ℕ) → later (suc n) ≡ 16 * (n * suc n)
unfolding later
later_closed zero = refl
later_closed (suc n) = omega (arith, later_closed n, mul-suc (suc n) (suc n), mul-suc n (suc n), suc-mul n (suc n), suc-mul n (suc (suc n)))

rank_begin : (bars : List Bar) → rank bars (begin 0) ≡ 16 * (length bars * suc (length bars))
unfolding rank begin later
rank_begin bars =
    let z : length bars - 0 ≡ length bars = omega arith in
    ap (λ (d : ℕ). later d + 31 * d + d) z ∙ omega (arith, later_closed (length bars))

-- A PART OF n MEASURES PLAYS 16 n (n + 1) AT THE MOST
pub played_bound : (bars : List Bar) → length (played bars) ≤ 16 * (length bars * suc (length bars))
unfolding played played_from
played_bound bars = omega (arith, walk_short bars (suc (rank bars (begin 0))) (begin 0) (begin_stands 0), rank_begin bars)

-- WHAT IS LISTED is a measure of the part, counted from 1
abbrev pub Own : List Bar → ℕ → Type 0
Own bars x = (1 ≤ x) × (x ≤ length bars)

own_listed : (bars : List Bar) (w : Place) (b : Bar) → w.at < length bars → All (Own bars) (listed w b)
unfolding listed
own_listed bars w b h = by_test (is_skipped b.span w.pass) (λ e. rw e tt) (λ e. rw e ((omega arith, omega (arith, h)), tt))

walk_own : (bars : List Bar) (k : ℕ) (w : Place) → All (Own bars) (walk bars k w)
unfolding walk after
walk_own bars zero w = tt
walk_own bars (suc k) w = subst (All (Own bars)) (sym (walk_after bars k w)) (go (get_elem? bars w.at) refl (walk_own bars k))
  where
    go : (o : Option Bar) → get_elem? bars w.at ≡ o → ((v : Place) → All (Own bars) (walk bars k v)) → All (Own bars) (after bars k w o)
    go none e ih = tt
    go (some b) e ih = All-append (Own bars) (listed w b) (walk bars k (next bars w b)) (own_listed bars w b (there bars w.at b e)) (ih (next bars w b))

pub played_own : (bars : List Bar) → All (Own bars) (played bars)
unfolding played played_from
played_own bars = walk_own bars (suc (rank bars (begin 0))) (begin 0)
