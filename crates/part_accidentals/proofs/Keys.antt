-- What a key does to a step, as the code asks.
use Prim.Native.Nat.{ℕ, ◌+◌, ◌-◌, ◌*◌, ◌%◌, ◌≤◌, ◌<◌}
use mathlib.Core.Path.{◌≡◌, ap, ◌∙◌}
use Rattle.std.specs.Int.{from_bool}
use native.Mathlib.Omega.{arith}
use lib.Dec.{ltb, leb}
use borrow.Author.Tests.{lt-ltb, le-ltb, le-leb, lt-leb, ltb-true, ltb-false, leb-true, leb-false}
use Rattle.laws.proofs.Bools.{by_test}
use Rattle.standard.specs.Keys.{Key, place, key_alter}

module _ (k : Key) (fifths step : ℕ) (e : k.fifths ≡ fifths) where
  key_sharp : (2 * step + 1) % 7 + 128 < fifths → 129 ≡ key_alter k step
  unfolding key_alter place
  key_sharp h = let l : (2 * step + 1) % 7 + 128 < k.fifths = omega arith in rw (lt-ltb _ _ l, key_alter)

  key_flat : fifths ≤ (2 * step + 1) % 7 + 128 → fifths ≤ (2 * step + 1) % 7 + 121 → 127 ≡ key_alter k step
  unfolding key_alter place
  key_flat h l =
      let a : k.fifths ≤ (2 * step + 1) % 7 + 128 = omega arith in
      let b : k.fifths ≤ (2 * step + 1) % 7 + 121 = omega arith in
      rw (le-ltb _ _ a, le-leb _ _ b, key_alter)

  key_plain : fifths ≤ (2 * step + 1) % 7 + 128 → (2 * step + 1) % 7 + 121 < fifths → 128 ≡ key_alter k step
  unfolding key_alter place
  key_plain h l =
      let a : k.fifths ≤ (2 * step + 1) % 7 + 128 = omega arith in
      let b : (2 * step + 1) % 7 + 121 < k.fifths = omega arith in
      rw (le-ltb _ _ a, lt-leb _ _ b, key_alter)

  -- all three at once, by the two tests
  pub key_by_lem : (sharp flat : ℕ) → sharp ≡ from_bool (ltb ((2 * step + 1) % 7 + 128) fifths) → flat ≡ from_bool (leb fifths ((2 * step + 1) % 7 + 121)) → 128 + sharp - flat ≡ key_alter k step
  key_by_lem sharp flat s f =
      let p = (2 * step + 1) % 7 in
      by_test (ltb (p + 128) fifths)
      (λ t. let h = ltb-true (p + 128) fifths t in
      let a : sharp ≡ 1 = s ∙ ap from_bool t in
      let b : flat ≡ 0 = f ∙ ap from_bool (lt-leb fifths (p + 121) (omega (arith, h))) in
      let n : 128 + sharp - flat ≡ 129 = omega (arith, a, b) in
      n ∙ key_sharp h)
      (λ t. let h = ltb-false (p + 128) fifths t in
      let a : sharp ≡ 0 = s ∙ ap from_bool t in
      by_test (leb fifths (p + 121))
      (λ u. let b : flat ≡ 1 = f ∙ ap from_bool u in
      let n : 128 + sharp - flat ≡ 127 = omega (arith, a, b) in
      n ∙ key_flat h (leb-true fifths (p + 121) u))
      (λ u. let b : flat ≡ 0 = f ∙ ap from_bool u in
      let n : 128 + sharp - flat ≡ 128 = omega (arith, a, b) in
      n ∙ key_plain h (leb-false fifths (p + 121) u)))
