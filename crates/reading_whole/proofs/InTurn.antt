-- Laws of the loop over the parts: what the parts from here on say is what the reading says.
use Prim.Native.Nat.{ℕ, suc, ◌+◌, ◌-◌, ◌≤◌, ◌<◌}
use mathlib.Core.Path.{◌≡◌, ap}
use mathlib.Core.Bool.{false}
use mathlib.Core.List.{List}
use native.Mathlib.Omega.{arith}
use lib.ListN.{length, drop}
use borrow.Author.Tests.{le-leb, lt-leb}
use Rattle.std.specs.Prelude.{Some, None}
use Rattle.laws.specs.Bytes.{u32_at}
use Rattle.reading_records.specs.Widths.{first_part}
use Rattle.reading_whole.specs.Whole.{is_zeros, whole_from, is_whole}
use Rattle.reading_whole.specs.Given.{part_for}
use Rattle.reading_whole.proofs.Parts.{part_inside}
use Rattle.reading_whole.proofs.Places.{part_ends, part_none}

-- no room for the count of parts
pub whole_short : (s : List ℕ) → length s < first_part → false ≡ is_whole s
unfolding is_whole
whole_short s h = rw (lt-leb first_part (length s) h)

-- at the start
pub whole_start : (s : List ℕ) (n : ℕ) → n ≡ u32_at s 0 → first_part ≤ length s → whole_from s first_part (n - 0) ≡ is_whole s
unfolding is_whole
whole_start s n e h = let k : n - 0 ≡ u32_at s 0 = omega arith in rw (le-leb first_part (length s) h) (ap (whole_from s first_part) k)

-- a part more
pub whole_next : (s : List ℕ) (at n i e : ℕ) → i < n → part_for s at ≡ Some e → (e ≤ length s) × (whole_from s e (n - (i + 1)) ≡ whole_from s at (n - i))
unfolding whole_from
whole_next s at n i e h p =
    let q = part_ends s at e p in
    let k : n - i ≡ suc (n - (i + 1)) = omega arith in
    (rw q.1 (part_inside s at q.0), rw (k, q.0) (ap (λ (j : ℕ). whole_from s j (n - (i + 1))) q.1))

-- one that is none
pub whole_broken : (s : List ℕ) (at n i : ℕ) → i < n → part_for s at ≡ None → false ≡ whole_from s at (n - i)
unfolding whole_from
whole_broken s at n i h p = let k : n - i ≡ suc (n - (i + 1)) = omega arith in rw (k, part_none s at p)

-- at the end
pub whole_end : (s : List ℕ) (at n i : ℕ) → n ≤ i → is_zeros (drop at s) ≡ whole_from s at (n - i)
unfolding whole_from
whole_end s at n i h = let k : n - i ≡ 0 = omega arith in rw k
