-- HOW FAR THE COPYING HAS COME, step by step.
use Prim.Native.Nat.{ℕ, ◌+◌, ◌-◌, ◌≤◌, ◌<◌}
use mathlib.Core.Path.{◌≡◌, refl, sym, ap, subst, ◌∙◌}
use mathlib.Core.List.{List, [], ◌∷◌, ◌++◌}
use native.Mathlib.Omega.{arith}
use lib.ListN.{length, length-append}
use Rattle.std.specs.Prelude.{Some, None}
use Rattle.laws.specs.Bytes.{le32, u32_at, splice, enc_all}
use Rattle.laws.proofs.Splices.{length_spliced}
use Rattle.reading_list.specs.Numbers.{number_at, numbers_in, above, CopiedIs}
use Rattle.reading_list.proofs.Numbers.{numbers_none, above_kept, above_left, above_grows, written_none, written_more, number_stays}

-- those above `least` of the numbers `from` up to i of l
abbrev kept : List ℕ → ℕ → ℕ → ℕ → List ℕ
kept l least from i = above least (numbers_in l from (i - from))

-- they are written behind the `listed` numbers of l, which is m so far
pub record Copying (room listed least from to : ℕ) (l m : List ℕ) (count i : ℕ) : Type 0 where
  pub low : from ≤ i
  pub high : i ≤ to
  pub fits : count ≤ room
  pub same : length m ≡ length l
  pub count_is : count ≡ listed + length (kept l least from i)
  pub store : m ≡ splice l (number_at listed) (enc_all le32 (kept l least from i))

module _ (room listed least from to : ℕ) (l : List ℕ) where
  pub copying_start : from ≤ to → listed ≤ room → Copying room listed least from to l l listed from
  unfolding above
  copying_start h k =
      let e : kept l least from from ≡ [] = ap (above least) (numbers_none l from from refl) in
      record { low = omega arith; high = h; fits = k; same = refl; count_is = omega (arith, ap length e); store = written_none l listed (kept l least from from) e }

  module _ (m : List ℕ) (count i : ℕ) (w : Copying room listed least from to l m count i) where
    -- number i is still there
    number_there : i < listed → u32_at m (number_at i) ≡ u32_at l (number_at i)
    number_there h = ap (λ (s : List ℕ). u32_at s (number_at i)) w.store ∙ number_stays l listed i (enc_all le32 (kept l least from i)) h

    more : i < listed → least < u32_at m (number_at i) → kept l least from (i + 1) ≡ kept l least from i ++ (u32_at m (number_at i) ∷ [])
    more h k =
        above_kept l least from i w.low (omega (arith, k, number_there h)) ∙ ap (λ (x : ℕ). kept l least from i ++ (x ∷ [])) (sym (number_there h))

    pub copying_keep : (s : List ℕ) → i < to → to ≤ listed → least < u32_at m (number_at i) → (count ≡ room → ⊥) → s ≡ splice m (number_at count) (le32 (u32_at m (number_at i)))
        → Copying room listed least from to l s (count + 1) (i + 1)
    copying_keep s h t k n e =
        let q = more (omega (arith, h, t)) k in
        record {
          low = omega (arith, w.low);
          high = omega (arith, h);
          fits = omega (arith, w.fits, n);
          same = length_spliced m s (number_at count) (le32 (u32_at m (number_at i))) e ∙ w.same;
          count_is = omega (arith, w.count_is, ap length q, length-append (kept l least from i) (u32_at m (number_at i) ∷ []));
          store = written_more l m s listed count (kept l least from i) (u32_at m (number_at i)) w.store w.count_is e ∙ ap (λ (z : List ℕ). splice l (number_at listed) (enc_all le32 z)) (sym q);
        }

    pub copying_leave : i < to → to ≤ listed → u32_at m (number_at i) ≤ least → Copying room listed least from to l m count (i + 1)
    copying_leave h t k =
        let q = above_left l least from i w.low (omega (arith, k, number_there (omega (arith, h, t)))) in
        record {
          low = omega (arith, w.low);
          high = omega (arith, h);
          fits = w.fits;
          same = w.same;
          count_is = omega (arith, w.count_is, ap length q);
          store = w.store ∙ ap (λ (z : List ℕ). splice l (number_at listed) (enc_all le32 z)) (sym q);
        }

    -- a number has no room
    pub copying_full : i < to → to ≤ listed → least < u32_at m (number_at i) → count ≡ room → CopiedIs room listed (kept l least from to) l m None
    copying_full h t k n =
        let q = more (omega (arith, h, t)) k in
        record {
          says = omega (arith, n, w.count_is, ap length q, length-append (kept l least from i) (u32_at m (number_at i) ∷ []), above_grows l least from (i + 1) to (omega (arith, w.low)) (omega (arith, h)));
        }

    pub copying_end : to ≤ i → CopiedIs room listed (kept l least from to) l m (Some count)
    copying_end h =
        let e : i ≡ to = omega (arith, h, w.high) in
        record {
          says = (
            subst (λ (k : ℕ). count ≡ listed + length (kept l least from k)) e w.count_is,
            w.fits,
            subst (λ (k : ℕ). m ≡ splice l (number_at listed) (enc_all le32 (kept l least from k))) e w.store,
          );
        }
