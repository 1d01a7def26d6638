-- Laws of products, and of numbers in a store of bytes, for every width: le16 and u16_at are `little 2` and `little_at 2`, le32 and u32_at are `little 4` and `little_at 4`.
use Prim.Native.Nat.{ℕ, zero, suc, ◌+◌, ◌*◌, ◌/◌, ◌%◌, ◌^◌, ◌≤◌, ◌<◌}
use mathlib.Core.Path.{◌≡◌, refl, sym, ap, ◌∙◌}
use mathlib.Core.List.{List, [], ◌∷◌}
use native.Mathlib.Nat.{add-zero, add_assoc, pow-suc, le_refl, mul-le-mul, div-div-eq-div-mul}
use native.Mathlib.Numerals.{add-one}
use native.Mathlib.Omega.{arith}
use lib.ListN.{length, get_or}
use Rattle.laws.specs.Lists.{All}
use Rattle.laws.specs.Bytes.{part, splice, little, little_at, le16, le32, u16_at, u32_at}
use Rattle.laws.proofs.Parts.{get_d_part, part_cons, part_none}
use Rattle.laws.proofs.Splices.{part_same, part_below, part_above}

-- a product grows with its second factor
pub mul_le_right : (n a b : ℕ) → a ≤ b → n * a ≤ n * b
mul_le_right n a b h = mul-le-mul (le_refl n) h

-- and with its first
pub mul_le_left : (m n a : ℕ) → m ≤ n → m * a ≤ n * a
mul_le_left m n a h = mul-le-mul h (le_refl a)

-- a number of w bytes has w
pub length_little : (w v : ℕ) → length (little w v) ≡ w
unfolding little
length_little zero v = refl
length_little (suc w) v = ap suc (length_little w (v / 256))

-- each of them is a byte
pub little_bytes : (w v : ℕ) → All (λ b. b < 256) (little w v)
unfolding little
little_bytes zero v = tt
little_bytes (suc w) v = (omega arith, little_bytes w (v / 256))

-- a number in a part of the store is the one in the store
pub little_at_part : (w : ℕ) (s : List ℕ) (b n k : ℕ) → k + w ≤ n → little_at w (part s b n) k ≡ little_at w s (b + k)
unfolding little_at
little_at_part zero s b n k h = refl
little_at_part (suc w) s b n k h = rw (get_d_part s b n k (omega arith), little_at_part w s b n (k + 1) (omega arith), add_assoc b k 1)

-- it is the one in its own bytes
pub little_at_own : (w : ℕ) (s : List ℕ) (k : ℕ) → little_at w s k ≡ little_at w (part s k w) 0
little_at_own w s k = ap (little_at w s) (sym (add-zero k)) ∙ sym (little_at_part w s k w 0 (omega arith))

-- one byte more at the front
pub little_at_cons : (w b : ℕ) (s : List ℕ) (k : ℕ) → little_at w (b ∷ s) (k + 1) ≡ little_at w s k
unfolding little_at
little_at_cons zero b s k = refl
little_at_cons (suc w) b s k =
    let e : get_or (b ∷ s) (k + 1) 0 ≡ get_or s k 0 = rw (add-one k) in
    rw (e, little_at_cons w b s (k + 1))

-- a number is read back from its bytes
pub little_at_little : (w v : ℕ) → v < 256 ^ w → little_at w (little w v) 0 ≡ v
unfolding little little_at
little_at_little zero v h = omega arith
little_at_little (suc w) v h =
    let q : v / 256 < 256 ^ w = omega (arith, pow-suc 256 w) in
    rw (little_at_cons w (v % 256) (little w (v / 256)) 0, little_at_little w (v / 256) q) (omega arith)

-- A NUMBER AFTER A WRITE
-- the one that was written
pub little_at_same : (w : ℕ) (s : List ℕ) (at v : ℕ) → at + w ≤ length s → v < 256 ^ w → little_at w (splice s at (little w v)) at ≡ v
little_at_same w s at v h l =
    let t = splice s at (little w v) in
    little_at_own w t at
    ∙ ap (λ (n : ℕ). little_at w (part t at n) 0) (sym (length_little w v))
    ∙ ap (λ (x : List ℕ). little_at w x 0) (part_same s at (little w v) (rw length_little h))
    ∙ little_at_little w v l

-- one before it
pub little_at_below : (w : ℕ) (s : List ℕ) (at : ℕ) (bs : List ℕ) (k : ℕ) → k + w ≤ at → little_at w (splice s at bs) k ≡ little_at w s k
little_at_below w s at bs k h =
    little_at_own w (splice s at bs) k ∙ ap (λ (l : List ℕ). little_at w l 0) (part_below s at bs k w h) ∙ sym (little_at_own w s k)

-- one past it
pub little_at_above : (w : ℕ) (s : List ℕ) (at : ℕ) (bs : List ℕ) (k : ℕ) → at + length bs ≤ k → little_at w (splice s at bs) k ≡ little_at w s k
little_at_above w s at bs k h =
    little_at_own w (splice s at bs) k ∙ ap (λ (l : List ℕ). little_at w l 0) (part_above s at bs k w h) ∙ sym (little_at_own w s k)

-- OF A STORE OF BYTES
module _ (s : List ℕ) (bytes : (i : ℕ) → get_or s i 0 < 256) where
  -- a number of w bytes is below 256 ^ w
  pub little_at_lt : (w k : ℕ) → little_at w s k < 256 ^ w
  unfolding little_at
  little_at_lt zero k = omega arith
  little_at_lt (suc w) k = omega (arith, bytes k, little_at_lt w (k + 1), pow-suc 256 w)

  -- the bytes of a number that was read are those that it was read from
  pub little_little_at : (w k : ℕ) → k + w ≤ length s → little w (little_at w s k) ≡ part s k w
  unfolding little little_at
  little_little_at zero k h = sym (part_none s k)
  little_little_at (suc w) k h =
      let x = little_at w s (k + 1) in
      let low : (get_or s k 0 + x * 256) % 256 ≡ get_or s k 0 = omega (arith, bytes k) in
      let high : (get_or s k 0 + x * 256) / 256 ≡ x = omega (arith, bytes k) in
      rw (low, high, little_little_at w (k + 1) (omega arith), ← add-one w) (sym (part_cons s k w (omega arith)))

-- WRITTEN OUT, as code of two and of four bytes has them
-- two bytes
pub le16_bytes : (v : ℕ) → le16 v ≡ v % 256 ∷ v / 256 % 256 ∷ []
unfolding little
le16_bytes v = refl

-- four bytes
pub le32_bytes : (v : ℕ) → le32 v ≡ v % 256 ∷ v / 256 % 256 ∷ v / 65536 % 256 ∷ v / 16777216 % 256 ∷ []
unfolding little
le32_bytes v =
    let p : v / 256 / 256 ≡ v / 65536 = div-div-eq-div-mul v 256 256 in
    let q : v / 65536 / 256 ≡ v / 16777216 = div-div-eq-div-mul v 65536 256 in
    rw (p, q)

-- the number that two bytes spell
pub u16_sum : (s : List ℕ) (k : ℕ) → u16_at s k ≡ get_or s k 0 + get_or s (k + 1) 0 * 256
unfolding little_at
u16_sum s k = omega arith

-- the number that four bytes spell
pub u32_sum : (s : List ℕ) (k : ℕ) → u32_at s k ≡ get_or s k 0 + get_or s (k + 1) 0 * 256 + get_or s (k + 2) 0 * 65536 + get_or s (k + 3) 0 * 16777216
unfolding little_at
u32_sum s k = rw (add_assoc k 1 1, add_assoc k 2 1) (omega arith)
