-- PLACES BY THE INDEX: what is believed, and what each write leaves of it.
use Prim.Native.Nat.{ℕ, zero, suc, ◌+◌, ◌*◌, ◌^◌, ◌≤◌, ◌<◌}
use mathlib.Core.Path.{◌≡◌, refl, sym, ap, subst, ◌∙◌}
use mathlib.Core.Bool.{Bool, true, cond, ◌&&◌}
use mathlib.Core.Logic.{◌⊎◌, inl, inr}
use mathlib.Core.Option.{none, some}
use mathlib.Core.List.{List}
use native.Mathlib.Nat.{add-zero}
use native.Mathlib.Omega.{arith}
use lib.Dec.{eqb, leb, ltb}
use borrow.Author.Tests.{ltb-true, ltb-false, leb-true, leb-false, lt-ltb, le-leb, eq-eqb, eqb-true, eqb-false, ne_eqb}
use lib.ListN.{length, get_or}
use Rattle.laws.specs.Bytes.{splice, little, little_at, le32, u32_at}
use Rattle.laws.proofs.Bools.{by_test, never_true, and_left, and_right, and_both, same_test, cond_true, cond_false}
use Rattle.laws.proofs.Numbers.{little_at_same, little_at_below, little_at_above}
use Rattle.laws.proofs.Splices.{length_splice, byte_same, byte_below, byte_above}
use Rattle.part_rows.specs.Encoded.{scope_row, scope_slot, scope_row_width, scope_index_width, scope_octave_at, scope_slots_at, scope_slot_width, slot_alter_at, slot_cents_at}
use Rattle.part_scopes.specs.Scopes.{entry_at, row_at, slot_at, believed, place_in, held_at, recalled_at, with_row}

-- BELIEVED: the place is of a row, and its row bears the entry out
pub record Borne (s : List ℕ) (at count step octave p : ℕ) : Type 0 where
  pub some_place : 0 < p
  pub inside : p ≤ count
  pub same_step : get_or s (row_at at p) 0 ≡ step
  pub same_octave : get_or s (row_at at p + scope_octave_at) 0 ≡ octave

module _ (s : List ℕ) (at count step octave : ℕ) where
  borne : (p : ℕ) → believed s at count step octave p ≡ true → Borne s at count step octave p
  unfolding believed
  borne p e =
      let inside = ltb 0 p && leb p count in
      let there = eqb (get_or s (row_at at p) 0) step in
      let here = eqb (get_or s (row_at at p + scope_octave_at) 0) octave in
      let place = and_left inside (there && here) e in
      let row = and_right inside (there && here) e in
      record {
        some_place = ltb-true 0 p (and_left (ltb 0 p) (leb p count) place);
        inside = leb-true p count (and_right (ltb 0 p) (leb p count) place);
        same_step = eqb-true _ step (and_left there here row);
        same_octave = eqb-true _ octave (and_right there here row);
      }

  bears : (p : ℕ) → Borne s at count step octave p → believed s at count step octave p ≡ true
  unfolding believed
  bears p b = and_both _ _ (and_both _ _ (lt-ltb 0 p b.some_place) (le-leb p count b.inside)) (and_both _ _ (eq-eqb _ step b.same_step) (eq-eqb _ octave b.same_octave))

  -- the entry is borne out, or there is no row
  pub place_is : (p : ℕ) → u32_at s (entry_at at step octave) ≡ p → Borne s at count step octave p → place_in s at count step octave ≡ p
  unfolding place_in
  place_is p e b = cond_true _ _ 0 (bears _ (subst (Borne s at count step octave) (sym e) b)) ∙ e

  pub place_none : (p : ℕ) → u32_at s (entry_at at step octave) ≡ p → (Borne s at count step octave p → ⊥) → place_in s at count step octave ≡ 0
  unfolding place_in
  place_none p e n = cond_false _ _ 0 (never_true _ (λ t. n (subst (Borne s at count step octave) e (borne _ t))))

  pub place_borne : 0 < place_in s at count step octave → Borne s at count step octave (place_in s at count step octave)
  unfolding place_in
  place_borne l =
      by_test (believed s at count step octave (u32_at s (entry_at at step octave)))
      (λ t. subst (Borne s at count step octave) (sym (cond_true _ _ 0 t)) (borne _ t))
      (λ f. absurd (omega (arith, cond_false _ (u32_at s (entry_at at step octave)) 0 f)))

  pub place_inside : place_in s at count step octave ≤ count
  place_inside =
      let p = place_in s at count step octave in
      by_test (eqb p 0) (λ t. omega (arith, eqb-true p 0 t)) (λ f. (place_borne (omega (arith, eqb-false p 0 f))).inside)

  -- no rows
  pub place_over : count ≡ 0 → place_in s at count step octave ≡ 0
  place_over z = place_none _ refl (λ b. omega (arith, b.some_place, b.inside))

-- the same entry, borne out by the same rows
same_place : (s s' : List ℕ) (at count count' step octave : ℕ) → u32_at s' (entry_at at step octave) ≡ u32_at s (entry_at at step octave)
    → ((p : ℕ) → Borne s at count step octave p → Borne s' at count' step octave p) → ((p : ℕ) → Borne s' at count' step octave p → Borne s at count step octave p)
    → place_in s' at count' step octave ≡ place_in s at count step octave
unfolding place_in
same_place s s' at count count' step octave e f g =
    let q = u32_at s (entry_at at step octave) in
    ap (λ (p : ℕ). cond (believed s' at count' step octave p) p 0) e
    ∙ ap (λ (b : Bool). cond b q 0)
    (same_test (believed s' at count' step octave q) (believed s at count step octave q) (λ t. bears s at count step octave q (g q (borne s' at count' step octave q t)))
    (λ t. bears s' at count' step octave q (f q (borne s at count step octave q t))))

-- the same bytes of a slot
same_held : (s s' : List ℕ) (k step octave : ℕ) → ((i : ℕ) → i < scope_slot_width → get_or s' (k + i) 0 ≡ get_or s (k + i) 0) → held_at s' k step octave ≡ held_at s k step octave
unfolding held_at
same_held s s' k step octave h =
    let e : get_or s' k 0 ≡ get_or s k 0 = ap (λ (j : ℕ). get_or s' j 0) (sym (add-zero k)) ∙ h 0 (omega arith) ∙ ap (λ (j : ℕ). get_or s j 0) (add-zero k) in
    let a = h slot_alter_at (omega arith) in
    let c = h slot_cents_at (omega arith) in
    λ i. cond (eqb (e i) 1) (some (record { step = step; octave = octave; alter = a i; cents = c i })) none

-- by the place of a row
pub same_recalled : (s s' : List ℕ) (at p voice step octave : ℕ) → (0 < p → held_at s' (slot_at at p voice) step octave ≡ held_at s (slot_at at p voice) step octave)
    → recalled_at s' at p voice step octave ≡ recalled_at s at p voice step octave
unfolding recalled_at
same_recalled s s' at p voice step octave h =
    by_test (eqb p 0) (λ t. cond_true _ _ _ t ∙ sym (cond_true _ _ _ t)) (λ f. cond_false _ _ _ f ∙ h (omega (arith, eqb-false p 0 f)) ∙ sym (cond_false _ _ _ f))

pub recalled_none : (s : List ℕ) (at voice step octave : ℕ) → recalled_at s at 0 voice step octave ≡ none
unfolding recalled_at
recalled_none s at voice step octave = refl

pub recalled_held : (s : List ℕ) (at p voice step octave : ℕ) → 0 < p → recalled_at s at p voice step octave ≡ held_at s (slot_at at p voice) step octave
unfolding recalled_at
recalled_held s at p voice step octave l = cond_false _ _ _ (ne_eqb p 0 (λ z. omega arith))

-- THE SAME BYTES from the index on
module _ (s s' : List ℕ) (at : ℕ) (same : (j : ℕ) → at ≤ j → get_or s' j 0 ≡ get_or s j 0) where
  number_kept : (w k : ℕ) → at ≤ k → little_at w s' k ≡ little_at w s k
  unfolding little_at
  number_kept zero k l = refl
  number_kept (suc w) k l = λ i. same k l i + number_kept w (k + 1) (omega arith) i * 256

  pub kept_place : (count step octave : ℕ) → place_in s' at count step octave ≡ place_in s at count step octave
  kept_place count step octave =
      same_place s s' at count count step octave (number_kept 4 _ (omega arith))
      (λ p b. record { some_place = b.some_place; inside = b.inside; same_step = same _ (omega arith) ∙ b.same_step; same_octave = same _ (omega arith) ∙ b.same_octave })
      (λ p b. record { some_place = b.some_place; inside = b.inside; same_step = sym (same _ (omega arith)) ∙ b.same_step; same_octave = sym (same _ (omega arith)) ∙ b.same_octave })

  pub kept_recalled : (p voice step octave : ℕ) → recalled_at s' at p voice step octave ≡ recalled_at s at p voice step octave
  kept_recalled p voice step octave = same_recalled s s' at p voice step octave (λ l. same_held s s' (slot_at at p voice) step octave (λ i k. same _ (omega arith)))

-- A SLOT WRITTEN in the row of place q
module _ (s s' : List ℕ) (at q voice alter cents : ℕ) (e : s' ≡ splice s (slot_at at q voice) (scope_slot alter cents)) (some_place : 0 < q) (in_four : voice < 4) where
  -- what stands before it and behind it
  elsewhere : (j : ℕ) → (j < slot_at at q voice) ⊎ (slot_at at q voice + scope_slot_width ≤ j) → get_or s' j 0 ≡ get_or s j 0
  elsewhere j (inl l) = ap (λ (l : List ℕ). get_or l j 0) e ∙ byte_below s (slot_at at q voice) (scope_slot alter cents) j l
  elsewhere j (inr l) = ap (λ (l : List ℕ). get_or l j 0) e ∙ byte_above s (slot_at at q voice) (scope_slot alter cents) j l

  -- steps and octaves of rows
  head_kept : (p j : ℕ) → 0 < p → row_at at p ≤ j → j < row_at at p + scope_slots_at → get_or s' j 0 ≡ get_or s j 0
  head_kept p j l lo hi = elsewhere j (by_test (ltb q p) (λ t. let k = ltb-true q p t in inr (omega arith)) (λ f. let k = ltb-false q p f in inl (omega arith)))

  pub slot_place : (count step octave : ℕ) → step < 7 → octave < 256 → place_in s' at count step octave ≡ place_in s at count step octave
  slot_place count step octave l m =
      same_place s s' at count count step octave
      (ap (λ (x : List ℕ). u32_at x (entry_at at step octave)) e ∙ little_at_below 4 s (slot_at at q voice) (scope_slot alter cents) (entry_at at step octave) (omega arith))
      (λ p b.
      let k = b.some_place in
      record { some_place = k; inside = b.inside; same_step = head_kept p _ k (omega arith) (omega arith) ∙ b.same_step; same_octave = head_kept p _ k (omega arith) (omega arith) ∙ b.same_octave })
      (λ p b.
      let k = b.some_place in
      record {
        some_place = k;
        inside = b.inside;
        same_step = sym (head_kept p _ k (omega arith) (omega arith)) ∙ b.same_step;
        same_octave = sym (head_kept p _ k (omega arith) (omega arith)) ∙ b.same_octave;
      })

  -- another slot
  other_held : (p v step octave : ℕ) → 0 < p → v < 4 → (p ≡ q → v ≡ voice → ⊥) → held_at s' (slot_at at p v) step octave ≡ held_at s (slot_at at p v) step octave
  other_held p v step octave l m n =
      same_held s s' (slot_at at p v) step octave
      (λ i k. elsewhere (slot_at at p v + i)
      (by_test (ltb q p) (λ t. let a = ltb-true q p t in inr (omega arith))
      (λ f. let a = ltb-false q p f in
      by_test (ltb p q) (λ t. let b = ltb-true p q t in inl (omega arith))
      (λ g. let b = ltb-false p q g in
      by_test (ltb v voice) (λ t. let c = ltb-true v voice t in inl (omega arith))
      (λ o. let c = ltb-false v voice o in
      by_test (ltb voice v) (λ t. let d = ltb-true voice v t in inr (omega arith)) (λ u. let d = ltb-false voice v u in absurd (n (omega arith) (omega arith))))))))

  pub slot_other : (p v step octave : ℕ) → v < 4 → (0 < p → p ≡ q → v ≡ voice → ⊥) → recalled_at s' at p v step octave ≡ recalled_at s at p v step octave
  slot_other p v step octave m n = same_recalled s s' at p v step octave (λ l. other_held p v step octave l m (n l))

  -- the slot itself
  pub slot_own : (step octave : ℕ) → slot_at at q voice + scope_slot_width ≤ length s → recalled_at s' at q voice step octave ≡ some (record { step = step; octave = octave; alter = alter; cents = cents })
  unfolding held_at
  slot_own step octave room =
      let k = slot_at at q voice in
      let own : (i : ℕ) → i < scope_slot_width → get_or s' (k + i) 0 ≡ get_or (scope_slot alter cents) i 0 = λ i l. ap (λ (x : List ℕ). get_or x (k + i) 0) e ∙ byte_same s k (scope_slot alter cents) i room l in
      let m : get_or s' k 0 ≡ 1 = ap (λ (j : ℕ). get_or s' j 0) (sym (add-zero k)) ∙ own 0 (omega arith) in
      let a : get_or s' (k + slot_alter_at) 0 ≡ alter = own slot_alter_at (omega arith) in
      let c : get_or s' (k + slot_cents_at) 0 ≡ cents = own slot_cents_at (omega arith) in
      recalled_held s' at q voice step octave some_place
      ∙ (λ i. cond (eqb (m i) 1) (some (record { step = step; octave = octave; alter = a i; cents = c i })) none)

-- A ROW MORE, with its entry
module _ (s s' : List ℕ) (at count step octave : ℕ) (e : s' ≡ with_row s at count step octave) (a-step : step < 7) (an-octave : octave < 256) (small : count + 1 < 2 ^ 32)
    (room : at + scope_index_width + scope_row_width * (count + 1) ≤ length s) where
  abbrev s₁ : List ℕ
  s₁ = splice s (row_at at (count + 1)) (scope_row step octave)

  written : s' ≡ splice s₁ (entry_at at step octave) (le32 (count + 1))
  unfolding with_row
  written = e

  long : (v : ℕ) → length (le32 v) ≡ 4
  unfolding little
  long v = refl

  -- the rows
  behind_index : (j : ℕ) → at + scope_index_width ≤ j → get_or s' j 0 ≡ get_or s₁ j 0
  behind_index j l = ap (λ (x : List ℕ). get_or x j 0) written ∙ byte_above s₁ (entry_at at step octave) (le32 (count + 1)) j (omega (arith, long (count + 1)))

  old_row : (j : ℕ) → at + scope_index_width ≤ j → j < row_at at (count + 1) → get_or s' j 0 ≡ get_or s j 0
  old_row j l m = behind_index j l ∙ byte_below s (row_at at (count + 1)) (scope_row step octave) j m

  new_row_lem : (i : ℕ) → i < scope_row_width → get_or s' (row_at at (count + 1) + i) 0 ≡ get_or (scope_row step octave) i 0
  new_row_lem i l = behind_index (row_at at (count + 1) + i) (omega arith) ∙ byte_same s (row_at at (count + 1)) (scope_row step octave) i (omega arith) l

  new_step : get_or s' (row_at at (count + 1)) 0 ≡ step
  new_step = ap (λ (j : ℕ). get_or s' j 0) (sym (add-zero (row_at at (count + 1)))) ∙ new_row_lem 0 (omega arith)

  new_octave : get_or s' (row_at at (count + 1) + scope_octave_at) 0 ≡ octave
  new_octave = new_row_lem scope_octave_at (omega arith)

  -- its entry
  own_entry : u32_at s' (entry_at at step octave) ≡ count + 1
  own_entry = ap (λ (x : List ℕ). u32_at x (entry_at at step octave)) written ∙ little_at_same 4 s₁ (entry_at at step octave) (count + 1) (omega (arith, length_splice s (row_at at (count + 1)) (scope_row step octave))) small

  pub row_place : place_in s' at (count + 1) step octave ≡ count + 1
  row_place =
      place_is s' at (count + 1) step octave (count + 1) own_entry
      (record { some_place = omega arith; inside = omega arith; same_step = new_step; same_octave = new_octave })

  -- the entry of another step or octave
  other_entry : (a b : ℕ) → b < 256 → a < 7 → (a ≡ step → b ≡ octave → ⊥) → u32_at s' (entry_at at a b) ≡ u32_at s (entry_at at a b)
  other_entry a b k l n =
      ap (λ (x : List ℕ). u32_at x (entry_at at a b)) written
      ∙ by_test (ltb (256 * a + b) (256 * step + octave))
      (λ t. let m = ltb-true (256 * a + b) (256 * step + octave) t in little_at_below 4 s₁ (entry_at at step octave) (le32 (count + 1)) (entry_at at a b) (omega arith))
      (λ f. let m = ltb-false (256 * a + b) (256 * step + octave) f in
      by_test (ltb (256 * step + octave) (256 * a + b))
      (λ t. let o = ltb-true (256 * step + octave) (256 * a + b) t in little_at_above 4 s₁ (entry_at at step octave) (le32 (count + 1)) (entry_at at a b) (omega (arith, long (count + 1))))
      (λ g. let o = ltb-false (256 * step + octave) (256 * a + b) g in absurd (n (omega arith) (omega arith))))
      ∙ little_at_below 4 s (row_at at (count + 1)) (scope_row step octave) (entry_at at a b) (omega arith)

  pub other_place : (a b : ℕ) → b < 256 → a < 7 → (a ≡ step → b ≡ octave → ⊥) → place_in s' at (count + 1) a b ≡ place_in s at count a b
  other_place a b k l n =
      same_place s s' at count (count + 1) a b (other_entry a b k l n)
      (λ p h.
      let i = h.some_place in
      let o = h.inside in
      record { some_place = i; inside = omega arith; same_step = old_row _ (omega arith) (omega arith) ∙ h.same_step; same_octave = old_row _ (omega arith) (omega arith) ∙ h.same_octave })
      (λ p h.
      let i = h.some_place in
      let o = h.inside in
      by_test (leb p count)
      (λ t.
      let m = leb-true p count t in
      record { some_place = i; inside = m; same_step = sym (old_row _ (omega arith) (omega arith)) ∙ h.same_step; same_octave = sym (old_row _ (omega arith) (omega arith)) ∙ h.same_octave })
      (λ f.
      let z : p ≡ count + 1 = omega (arith, leb-false p count f) in
      let at_new : (i : ℕ) → get_or s' (row_at at p + i) 0 ≡ get_or s' (row_at at (count + 1) + i) 0 = λ i. ap (λ (x : ℕ). get_or s' (row_at at x + i) 0) z in
      absurd (n (sym h.same_step ∙ ap (λ (x : ℕ). get_or s' (row_at at x) 0) z ∙ new_step) (sym h.same_octave ∙ at_new scope_octave_at ∙ new_octave))))

  -- the slots of the other rows
  pub row_other : (p voice a b : ℕ) → p ≤ count → voice < 4 → recalled_at s' at p voice a b ≡ recalled_at s at p voice a b
  row_other p voice a b l m = same_recalled s s' at p voice a b (λ k. same_held s s' (slot_at at p voice) a b (λ i h. old_row _ (omega arith) (omega arith)))

  -- and its own, which are empty
  empty_slot : (voice : ℕ) → voice < 4 → get_or (scope_row step octave) (scope_slots_at + scope_slot_width * voice) 0 ≡ 0
  empty_slot zero l = refl
  empty_slot (suc zero) l = refl
  empty_slot (suc (suc zero)) l = refl
  empty_slot (suc (suc (suc zero))) l = refl
  empty_slot (suc (suc (suc (suc v)))) l = absurd (omega arith)

  pub row_empty : (voice a b : ℕ) → voice < 4 → recalled_at s' at (count + 1) voice a b ≡ none
  unfolding held_at
  row_empty voice a b l =
      let f = scope_slots_at + scope_slot_width * voice in
      let j : slot_at at (count + 1) voice ≡ row_at at (count + 1) + f = omega arith in
      let z : get_or s' (slot_at at (count + 1) voice) 0 ≡ 0 = ap (λ (x : ℕ). get_or s' x 0) j ∙ new_row_lem f (omega arith) ∙ empty_slot voice l in
      recalled_held s' at (count + 1) voice a b (omega arith) ∙ cond_false _ _ none (ne_eqb (get_or s' (slot_at at (count + 1) voice) 0) 1 (λ o. omega (arith, z, o)))
