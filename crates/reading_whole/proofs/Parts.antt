-- The parts of a whole reading: each is whole, and lies inside the bytes.
use Prim.Native.Nat.{ℕ, zero, suc, ◌≤◌, ◌<◌}
use mathlib.Core.Path.{◌≡◌}
use mathlib.Core.Bool.{true, false}
use mathlib.Core.List.{List}
use native.Mathlib.Nat.{not-suc-le-zero}
use native.Mathlib.Omega.{arith}
use lib.Dec.{leb}
use lib.ListN.{length}
use borrow.Author.Tests.{leb-true}
use Rattle.laws.specs.Bytes.{u32_at}
use Rattle.laws.proofs.Bools.{and_left, and_right, and_no_right}
use Rattle.reading_records.specs.Widths.{first_part}
use Rattle.reading_sections.specs.Sections.{part_end, part_at, PartsWithin}
use Rattle.reading_whole.specs.Whole.{is_part, whole_from, is_whole}

-- A PART
-- its sections lie inside the bytes
pub part_inside : (s : List ℕ) (at : ℕ) → is_part s at ≡ true → part_end s at ≤ length s
unfolding is_part
part_inside s at e = leb-true _ _ (and_left _ _ (and_left _ _ (and_left _ _ (and_left _ _ e))))

-- PARTS FROM `at` ON
pub from_within : (s : List ℕ) (at n : ℕ) → at ≤ length s → whole_from s at n ≡ true → PartsWithin s at n
unfolding whole_from PartsWithin
from_within s at zero h e = h
from_within s at (suc n) h e =
    let p : part_end s at ≤ length s = part_inside s at (and_left _ _ e) in
    (p, from_within s (part_end s at) n p (and_right (is_part s at) _ e))

pub from_part : (s : List ℕ) (at n q : ℕ) → whole_from s at n ≡ true → q < n → is_part s (part_at s at q) ≡ true
unfolding whole_from part_at
from_part s at zero q e h = absurd (not-suc-le-zero h)
from_part s at (suc n) zero e h = and_left _ _ e
from_part s at (suc n) (suc q) e h = from_part s (part_end s at) n q (and_right (is_part s at) _ e) (omega arith)

pub from_broken : (s : List ℕ) (at n : ℕ) → 0 < n → is_part s at ≡ false → whole_from s at n ≡ false
unfolding whole_from
from_broken s at zero h e = absurd (not-suc-le-zero h)
from_broken s at (suc n) h e = rw e

-- A WHOLE READING
-- has room for its count of parts
pub whole_room : (s : List ℕ) → is_whole s ≡ true → first_part ≤ length s
unfolding is_whole
whole_room s e = leb-true _ _ (and_left _ _ e)

-- its parts lie inside the bytes
pub whole_within : (s : List ℕ) → is_whole s ≡ true → PartsWithin s first_part (u32_at s 0)
unfolding is_whole
whole_within s e = from_within s first_part (u32_at s 0) (whole_room s e) (and_right (leb first_part (length s)) _ e)

-- each is whole
pub whole_part : (s : List ℕ) (q : ℕ) → is_whole s ≡ true → q < u32_at s 0 → is_part s (part_at s first_part q) ≡ true
unfolding is_whole
whole_part s q e h = from_part s first_part (u32_at s 0) q (and_right (leb first_part (length s)) _ e) h

-- and lies inside the bytes
pub whole_part_inside : (s : List ℕ) (q : ℕ) → is_whole s ≡ true → q < u32_at s 0 → part_end s (part_at s first_part q) ≤ length s
whole_part_inside s q e h = part_inside s (part_at s first_part q) (whole_part s q e h)

-- A READING THAT IS NOT WHOLE, by its first part: however many parts it counts, no other need be looked at
pub first_broken : (s : List ℕ) → 0 < u32_at s 0 → is_part s first_part ≡ false → is_whole s ≡ false
unfolding is_whole
first_broken s h e = and_no_right (leb first_part (length s)) _ (from_broken s first_part (u32_at s 0) h e)
