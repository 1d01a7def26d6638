-- The sizes of the forty values: what `size` computes, and its bounds.
use Prim.Native.Nat.{ℕ, ◌+◌, ◌-◌, ◌*◌, ◌/◌, ◌%◌, ◌^◌, ◌<◌, ◌≤◌, min}
use mathlib.Core.Path.{◌≡◌, refl}
use native.Mathlib.Nat.{one-le-mul, pow-suc, mul-le-mul, mul-le-mul_right, min-eq_left, min-eq_right}
use native.Mathlib.Decide.{dec_le}
use native.Mathlib.Omega.{arith}
use lib.Dec.{leb, ltb, eqb}
use lib.Pow.{pow_pos}
use borrow.Author.Tests.{lt-leb, leb-true, ltb-true, eqb-true}
use Rattle.laws.proofs.Finite.{below₂}
use Rattle.standard.specs.Lengths.{Value, ticks}
use Rattle.token_lengths.specs.Values.{written}

-- `2 << dots` and `4096 >> (value + dots)` as the logic has them
abbrev pub shifted : ℕ → ℕ
shifted d = (2 * 2 ^ d) % 2 ^ 64

abbrev pub computed : ℕ → ℕ → ℕ
computed v d = (4096 / 2 ^ (v + d)) * (shifted d - 1)

module _ (v d : ℕ) (hv : v < 10) (hd : d < 4) where
  pub shifted_pos : 1 ≤ shifted d
  shifted_pos = leb-true _ _ (below₂ 10 4 (λ v d. leb 1 (shifted d)) refl v d hv hd)

  pub computed_lt : computed v d < 2 ^ 64
  computed_lt = ltb-true _ _ (below₂ 10 4 (λ v d. ltb (computed v d) (2 ^ 64)) refl v d hv hd)

  pub computed_size : computed v d ≡ ticks (written v d)
  unfolding ticks
  computed_size = eqb-true _ _ (below₂ 10 4 (λ v d. eqb (computed v d) (ticks (written v d))) refl v d hv hd)

  pub size_le : ticks (written v d) ≤ 7680
  unfolding ticks
  size_le = leb-true _ _ (below₂ 10 4 (λ v d. leb (ticks (written v d)) 7680) refl v d hv hd)

pub size_pos : (w : Value) → 1 ≤ ticks w
unfolding ticks
size_pos w = one-le-mul (pow_pos (12 - w.value - w.dots)) (omega (arith, pow-suc 2 w.dots, pow_pos w.dots))

-- parts above which no product of a size and the parts is at most the length
pub bounded_leb : (s t parts : ℕ) → 1 ≤ s → t < 2 ^ 43 → leb (s * parts) t ≡ leb (s * min parts (2 ^ 43)) t
bounded_leb s t parts hs ht = go (dec_le parts (2 ^ 43))
  where
    go : Dec (parts ≤ 2 ^ 43) → leb (s * parts) t ≡ leb (s * min parts (2 ^ 43)) t
    go (yes h) = rw (min-eq_left h)
    go (no h) =
        let big : 2 ^ 43 ≤ parts = omega arith in
        let far : 1 * 2 ^ 43 ≤ s * parts = mul-le-mul hs big in
        let near : 1 * 2 ^ 43 ≤ s * 2 ^ 43 = mul-le-mul_right (2 ^ 43) hs in
        rw (min-eq_right big, lt-leb (s * parts) t (omega arith), lt-leb (s * 2 ^ 43) t (omega arith))
