-- WHERE A PART BEGINS, part after part.
use Prim.Native.Nat.{ℕ, zero, suc, ◌+◌, ◌-◌, ◌≤◌, ◌<◌, ◌^◌}
use mathlib.Core.Path.{◌≡◌, refl, sym, ap, subst, ◌∙◌}
use mathlib.Core.List.{List}
use native.Mathlib.Numerals.{add-one}
use native.Mathlib.Omega.{arith}
use lib.ListN.{length}
use Rattle.laws.specs.Bytes.{u32_at}
use Rattle.reader.specs.Records.{measure_width}
use Rattle.reading_records.specs.Widths.{first_part}
use Rattle.reading_sections.specs.Sections.{part_at, part_end}
use Rattle.reading_sections.proofs.Inside.{Inside, inside, behind_past}
use Rattle.reading_whole.proofs.Parts.{whole_part_inside}
use Rattle.reading_walk.specs.Played.{listed_in, played_of}
use Rattle.reading_bars.specs.Parts.{Here}
use Rattle.reading_passes.specs.Walks.{all_of}
use Rattle.reading_played.proofs.Calls.{PartIs}

part_next : (s : List ℕ) (at q : ℕ) → part_at s at (suc q) ≡ part_end s (part_at s at q)
unfolding part_at
part_next s at zero = refl
part_next s at (suc q) = part_next s (part_end s at) q

pub part_first : (s : List ℕ) (at : ℕ) → at ≡ part_at s at 0
unfolding part_at
part_first s at = refl

pub part_more : (s : List ℕ) (at q : ℕ) → part_at s at (q + 1) ≡ part_end s (part_at s at q)
part_more s at q = ap (part_at s at) (add-one q) ∙ part_next s at q

-- THE PART OF A NUMBER, from 1, in a whole reading: its measures lie within the bytes
part_inside : (s : List ℕ) (q at : ℕ) → PartIs s q → at ≡ part_at s first_part (q - 1) → Inside s at
part_inside s q at p e = inside s at (subst (λ (k : ℕ). part_end s k ≤ length s) (sym e) (whole_part_inside s (q - 1) p.whole (omega (arith, p.least, p.most))))

pub part_room : (s : List ℕ) (q at : ℕ) → PartIs s q → at ≡ part_at s first_part (q - 1) → at + 4 ≤ length s
part_room s q at p e = omega (arith, behind_past s measure_width at, (part_inside s q at p e).notes)

pub part_here : (s : List ℕ) (q at n : ℕ) → PartIs s q → at ≡ part_at s first_part (q - 1) → n ≡ u32_at s at → n < 2 ^ 32 → Here s at n
part_here s q at n p e f h = record { inside = (part_inside s q at p e).notes; count_is = f; few = h }

-- and its list is that of the part
pub part_listed : (s : List ℕ) (q at n : ℕ) → at ≡ part_at s first_part (q - 1) → listed_in (all_of s at) n ≡ listed_in (played_of s q) n
unfolding played_of
part_listed s q at n e = ap (λ (k : ℕ). listed_in (all_of s k) n) e
