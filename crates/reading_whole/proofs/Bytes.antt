-- Laws of what is read off the bytes: voltas in order, zeros behind.
use Prim.Native.Nat.{ℕ, ◌+◌, ◌≤◌, ◌<◌}
use mathlib.Core.Path.{◌≡◌, refl, sym}
use mathlib.Core.Bool.{Bool, false, ◌&&◌}
use mathlib.Core.Option.{Option, some}
use mathlib.Core.List.{List}
use native.Mathlib.Numerals.{add-one}
use lib.Dec.{eqb}
use lib.ListN.{length, get_or, drop, drop_of_length-le}
use Rattle.laws.proofs.Bools.{and_true, and_assoc}
use Rattle.laws.proofs.Lists.{drop_next}
use Rattle.reader.specs.Records.{measure_width}
use Rattle.reading_sections.specs.Sections.{record_at, volta_of}
use Rattle.reading_whole.specs.Whole.{is_zeros, volta_step, voltas}

-- VOLTAS
pub voltas_none : (s : List ℕ) (at : ℕ) → voltas s at 0 ≡ some false
unfolding voltas
voltas_none s at = refl

pub voltas_more : (s : List ℕ) (at i : ℕ) {v w : Option Bool} → v ≡ voltas s at i → w ≡ volta_step v (volta_of s (record_at measure_width at i)) → w ≡ voltas s at (i + 1)
unfolding voltas
voltas_more s at i e h = rw (add-one i, ← e) h

-- ZEROS
-- what is passed, and what is still to come
pub zeros_more : (s : List ℕ) (i : ℕ) (zero : Bool) → i < length s → ((zero && eqb (get_or s i 0) 0) && is_zeros (drop (i + 1) s)) ≡ (zero && is_zeros (drop i s))
unfolding is_zeros
zeros_more s i zero h = rw (drop_next s i 0 h) (and_assoc zero (eqb (get_or s i 0) 0) (is_zeros (drop (i + 1) s)))

pub zeros_end : (s : List ℕ) (i : ℕ) (zero : Bool) → length s ≤ i → zero ≡ (zero && is_zeros (drop i s))
unfolding is_zeros
zeros_end s i zero h = rw (drop_of_length-le s h) (sym (and_true zero))
