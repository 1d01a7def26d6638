-- Passes as bits.
use Prim.Native.Nat.{ℕ, suc, ◌+◌, ◌-◌, ◌*◌, ◌%◌, ◌^◌, ◌≤◌, ◌<◌}
use mathlib.Core.Path.{◌≡◌, refl}
use mathlib.Core.Bool.{Bool, true, not, ◌&&◌, ◌||◌}
use mathlib.Core.List.{List, [], ◌∷◌, ◌++◌}
use native.Mathlib.Omega.{arith}
use lib.Dec.{leb, eqb}
use lib.Pow.{pow_mono}
use borrow.Author.Tests.{le-leb, leb-true, eqb-true}
use Rattle.laws.proofs.Bools.{and_left, and_right}
use Rattle.laws.proofs.Finite.{below₂}
use Rattle.standard.specs.Passes.{rising}
use Rattle.reader.specs.Records.{pass_bits}

-- `1 << n` as the logic has it
abbrev pub shifted : ℕ → ℕ
shifted n = (1 * 2 ^ n) % 18446744073709551616

-- computed at each pair: the difference of two shifts has the bits of the passes between
right : ℕ → ℕ → Bool
right to from =
    not (leb 1 from && leb from to)
    || (leb (shifted (from - 1)) (shifted to) && eqb (shifted to - shifted (from - 1)) (pass_bits (rising from (suc (to - from)))) && eqb (pass_bits (rising from (suc (to - from))) + 2 ^ (from - 1)) (2 ^ to))

module _ (from to : ℕ) (l : 1 ≤ from) (o : from ≤ to) (h : to ≤ 32) where
  computed : (leb (shifted (from - 1)) (shifted to) && eqb (shifted to - shifted (from - 1)) (pass_bits (rising from (suc (to - from)))) && eqb (pass_bits (rising from (suc (to - from))) + 2 ^ (from - 1)) (2 ^ to)) ≡ true
  unfolding right pass_bits rising
  computed = rw (le-leb 1 from l, le-leb from to o) at (below₂ 33 33 right refl to from (omega arith) (omega arith))

  pub shifts_le : shifted (from - 1) ≤ shifted to
  shifts_le = leb-true _ _ (and_left _ _ (and_left _ _ computed))

  pub shifts_bits : shifted to - shifted (from - 1) ≡ pass_bits (rising from (suc (to - from)))
  shifts_bits = eqb-true _ _ (and_right (leb (shifted (from - 1)) (shifted to)) _ (and_left _ _ computed))

  -- with those of lower passes they stay below the next bit
  pub bits_below : (bits low : ℕ) → bits < 2 ^ low → low < from → bits + pass_bits (rising from (suc (to - from))) < 2 ^ to
  bits_below bits low b k =
      let e : pass_bits (rising from (suc (to - from))) + 2 ^ (from - 1) ≡ 2 ^ to =
      eqb-true _ _ (and_right (leb (shifted (from - 1)) (shifted to) && eqb (shifted to - shifted (from - 1)) (pass_bits (rising from (suc (to - from))))) _ computed) in
      let m : 2 ^ low ≤ 2 ^ (from - 1) = pow_mono (omega arith) in
      omega arith

-- the bits of two lists
pub bits_append : (ps qs : List ℕ) → pass_bits (ps ++ qs) ≡ pass_bits ps + pass_bits qs
unfolding pass_bits
bits_append [] qs = omega arith
bits_append (p ∷ ps) qs = omega (arith, bits_append ps qs)
