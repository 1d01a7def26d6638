-- Letters of notes, with the bit set that tells a small one from a capital.
use Prim.Native.Nat.{ℕ, ◌<◌}
use mathlib.Core.Path.{◌≡◌, refl, sym}
use mathlib.Core.Bool.{Bool, true, false, not, cond, ◌&&◌}
use lib.Bits.{bit_or}
use lib.Dec.{leb}
use Rattle.standard.specs.Pitches.{is_letter}
use Rattle.laws.proofs.Bools.{not_true}
use Rattle.laws.proofs.Finite.{below}

same : (a b : Bool) → cond a b (not b) ≡ true → a ≡ b
same true b e = sym e
same false b e = sym (not_true b e)

abbrev pub small_letter : ℕ → Bool
small_letter c = leb 97 (bit_or c 32) && leb (bit_or c 32) 103

pub letter_small : (c : ℕ) → c < 256 → small_letter c ≡ is_letter c
letter_small c h = same (small_letter c) (is_letter c) (below 256 (λ x. cond (small_letter x) (is_letter x) (not (is_letter x))) refl c h)
