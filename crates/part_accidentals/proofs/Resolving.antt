-- A PITCH RESOLVED, one law for each way: by its own accidental; without one, as remembered or by the key.
use Prim.Native.Nat.{ℕ, ◌+◌, ◌*◌, ◌^◌, ◌≤◌, ◌<◌}
use mathlib.Core.Path.{◌≡◌, refl, sym, ap, subst, ◌∙◌}
use mathlib.Core.Bool.{true, false}
use mathlib.Core.Option.{Option, none, some}
use mathlib.Core.List.{List, [], ◌∷◌}
use native.Mathlib.Omega.{arith}
use lib.Dec.{eqb}
use borrow.Author.Tests.{eqb-true, eqb-false, ne_eqb}
use lib.ListN.{length, get_or, set}
use Rattle.laws.specs.Lists.{alter_at}
use Rattle.laws.specs.Bytes.{splice, little, le32, u32_at}
use Rattle.laws.proofs.Bools.{by_test, both_true, cond_true, cond_false}
use Rattle.standard.specs.Keys.{Key, key_alter}
use Rattle.standard.specs.Pitches.{Accidental, Written, Pitch, altered}
use Rattle.reader.specs.Pitches.{Scope, remembered, or_key, sound_by, sound_of, scope_by, scope_after}
use Rattle.token_pitches.specs.declared.Sign.TheVariants as sign
use Rattle.token_pitches.specs.declared.Pitch as code
use Rattle.token_pitches.specs.Pitches.{sign_of}
use Rattle.part_rows.specs.Table.{Only}
use Rattle.part_rows.specs.Encoded.{pitch_for, scope_row, scope_slot, scope_row_width, scope_index_width, scope_octave_at, slot_alter_at, slot_cents_at}
use Rattle.part_rows.specs.declared.Sounded.{Sounded}
use Rattle.part_rows.proofs.Tables.{only_none, only_splice, only_then, only_wider}
use Rattle.part_scopes.specs.Scopes.{entry_at, row_at, slot_at, place_in, is_given, held_at, recalled_at, recalled, with_row, Scoped}
use Rattle.part_scopes.proofs.Places.{place_is, place_none, place_inside, recalled_held, row_place}
use Rattle.part_scopes.proofs.Scopes.{scoped_same, scoped_row, scoped_given}
use Rattle.part_accidentals.specs.declared.AbcPartParseState.{AbcPartParseState}
use Rattle.part_accidentals.specs.declared.Row.{Row}
use Rattle.part_accidentals.specs.Resolving.{signs, written_of, entered, store_with, row_with, ResolvedAs}

-- A ROW FOUND, or none: what stands at the entry and in the row that it names
module _ (s : List ℕ) (at count step octave k p : ℕ) (i : k ≡ entry_at at step octave) (e : p ≡ u32_at s k) where
  entry_is : u32_at s (entry_at at step octave) ≡ p
  entry_is = ap (u32_at s) (sym i) ∙ sym e

  pub no_entry : p ≡ 0 → 0 ≡ place_in s at count step octave
  no_entry z = sym (place_none s at count step octave p entry_is (λ b. omega (arith, b.some_place)))

  pub no_such_row : count < p → 0 ≡ place_in s at count step octave
  no_such_row l = sym (place_none s at count step octave p entry_is (λ b. omega (arith, b.inside)))

  module _ (row : ℕ) (r : row ≡ row_at at p) where
    pub other_step : (get_or s row 0 ≡ step → ⊥) → 0 ≡ place_in s at count step octave
    other_step n = sym (place_none s at count step octave p entry_is (λ b. n (ap (λ (j : ℕ). get_or s j 0) r ∙ b.same_step)))

    pub other_octave : (get_or s (row + scope_octave_at) 0 ≡ octave → ⊥) → 0 ≡ place_in s at count step octave
    other_octave n = sym (place_none s at count step octave p entry_is (λ b. n (ap (λ (j : ℕ). get_or s (j + scope_octave_at) 0) r ∙ b.same_octave)))

    pub row_is : (p ≡ 0 → ⊥) → p ≤ count → get_or s row 0 ≡ step → get_or s (row + scope_octave_at) 0 ≡ octave → p ≡ place_in s at count step octave
    row_is n l f g =
        sym (place_is s at count step octave p entry_is
        (record {
          some_place = omega (arith, n);
          inside = l;
          same_step = ap (λ (j : ℕ). get_or s j 0) (sym r) ∙ f;
          same_octave = ap (λ (j : ℕ). get_or s (j + scope_octave_at) 0) (sym r) ∙ g;
        }))

-- A ROW FOR A STEP AND OCTAVE
module _ (s : List ℕ) (at count step octave : ℕ) where
  pub row_found : (found : ℕ) → found ≡ place_in s at count step octave → (found ≡ 0 → ⊥) → (s ≡ store_with s at count step octave) × (record { place = found; count = count } ≡ row_with s at count step octave)
  unfolding store_with row_with
  row_found found e n =
      let f : eqb (place_in s at count step octave) 0 ≡ false = ne_eqb _ 0 (λ z. n (e ∙ z)) in
      (sym (cond_false _ _ _ f), (λ i. record { place = e i; count = count }) ∙ sym (cond_false _ _ _ f))

  pub row_put : (found : ℕ) → found ≡ place_in s at count step octave → found ≡ 0 → (s' : List ℕ) → s' ≡ with_row s at count step octave
      → (s' ≡ store_with s at count step octave) × (record { place = count + 1; count = count + 1 } ≡ row_with s at count step octave)
  unfolding store_with row_with
  row_put found e z s' w =
      let t : eqb (place_in s at count step octave) 0 ≡ true = ap (λ (p : ℕ). eqb p 0) (sym e ∙ z) in
      (w ∙ sym (cond_true _ _ _ t), sym (cond_true _ _ _ t))

  -- what is known of it
  pub record Taken (s' : List ℕ) (r : Row) : Type 0 where
    pub only : Only at (at + scope_index_width + scope_row_width * (count + 1)) s s'
    pub some_place : 0 < r.place
    pub inside : r.place ≤ r.count
    pub most : r.count ≤ count + 1
    pub is : place_in s' at r.count step octave ≡ r.place
    pub keeps : (places : List ℕ) (scopes : List Scope) → Scoped s at count places scopes → Scoped s' at r.count places scopes

  module _ (a-step : step < 7) (an-octave : octave < 256) (small : count + 1 < 2 ^ 32) (room : at + scope_index_width + scope_row_width * (count + 1) ≤ length s) where
    taken_old : 0 < place_in s at count step octave → Taken s (record { place = place_in s at count step octave; count = count })
    taken_old l =
        record { only = only_none _ _ s; some_place = l; inside = place_inside s at count step octave; most = omega arith; is = refl; keeps = λ places scopes h. h }

    taken_new : place_in s at count step octave ≡ 0 → Taken (with_row s at count step octave) (record { place = count + 1; count = count + 1 })
    unfolding with_row little
    taken_new z =
        let s₁ = splice s (row_at at (count + 1)) (scope_row step octave) in
        let hi = at + scope_index_width + scope_row_width * (count + 1) in
        record {
          only =
              only_then (only_splice at hi s s₁ (row_at at (count + 1)) (scope_row step octave) refl (omega arith) (omega arith))
              (only_splice at hi s₁ (with_row s at count step octave) (entry_at at step octave) (le32 (count + 1)) refl (omega arith) (omega arith));
          some_place = omega arith;
          inside = omega arith;
          most = omega arith;
          is = row_place s _ at count step octave refl a-step an-octave small room;
          keeps = λ places scopes h. scoped_row h _ step octave refl a-step an-octave small room z;
        }

    pub taken : (s' : List ℕ) (r : Row) → s' ≡ store_with s at count step octave → r ≡ row_with s at count step octave → Taken s' r
    unfolding store_with row_with
    taken s' r e f =
        subst (λ (x : List ℕ). Taken x r) (sym e)
        (subst (Taken (store_with s at count step octave)) (sym f)
        (by_test (eqb (place_in s at count step octave) 0) (λ t. rw t (taken_new (eqb-true (place_in s at count step octave) 0 t)))
        (λ n. rw n (taken_old (omega (arith, eqb-false (place_in s at count step octave) 0 n))))))

-- THE DEFINITION by the sign
sound_marked : (k : Key) (sc : Scope) (w : Written) (a : Accidental) → w.sign ≡ some a → sound_of k sc w ≡ altered w a
unfolding sound_of sound_by
sound_marked k sc w a e = ap (sound_by k sc w) e

scope_marked : (sc : Scope) (w : Written) (a : Accidental) → w.sign ≡ some a → altered w a ∷ sc ≡ scope_after sc w
unfolding scope_after scope_by
scope_marked sc w a e = sym (ap (scope_by sc w) e)

sound_unmarked : (k : Key) (sc : Scope) (w : Written) → w.sign ≡ none → sound_of k sc w ≡ or_key k w (remembered sc w)
unfolding sound_of sound_by
sound_unmarked k sc w e = ap (sound_by k sc w) e

scope_unmarked : (sc : Scope) (w : Written) → w.sign ≡ none → scope_after sc w ≡ sc
unfolding scope_after scope_by
scope_unmarked sc w e = ap (scope_by sc w) e

-- WITHOUT AN ACCIDENTAL OF ITS OWN
module _ (s : List ℕ) (at count voice step octave place : ℕ) (e : place ≡ place_in s at count step octave) where
  abbrev plainly : Written
  plainly = record { step = step; octave = octave; sign = none }

  -- one is in force
  given_place : is_given s at place voice ≡ true → 0 < place
  unfolding is_given
  given_place t = by_test (eqb place 0) (λ z. absurd (both_true (is_given s at place voice) t (cond_true _ _ _ z))) (λ n. omega (arith, eqb-false place 0 n))

  given_held : is_given s at place voice ≡ true → eqb (get_or s (slot_at at place voice) 0) 1 ≡ true
  unfolding is_given
  given_held t = by_test (eqb place 0) (λ z. absurd (both_true (is_given s at place voice) t (cond_true _ _ _ z))) (λ n. sym (cond_false _ _ _ n) ∙ t)

  pub given_inside : is_given s at place voice ≡ true → (0 < place) × (place ≤ count)
  given_inside t = (given_place t, omega (arith, e, place_inside s at count step octave))

  pub by_slot : is_given s at place voice ≡ true → (k : Key)
      → record { step = step; octave = octave; alter = get_or s (slot_at at place voice + slot_alter_at) 0; cents = get_or s (slot_at at place voice + slot_cents_at) 0 } ≡ pitch_for (or_key k plainly (recalled s at count voice step octave))
  unfolding or_key held_at
  by_slot t k =
      ap (λ (o : Option Pitch). pitch_for (or_key k plainly o))
      (sym (cond_true _ _ none (given_held t)) ∙ sym (recalled_held s at place voice step octave (given_place t)) ∙ ap (λ (p : ℕ). recalled_at s at p voice step octave) e)

  -- none is
  not_given : is_given s at place voice ≡ false → recalled_at s at place voice step octave ≡ none
  unfolding is_given recalled_at held_at
  not_given f = by_test (eqb place 0) (λ z. cond_true _ _ _ z) (λ n. cond_false _ _ _ n ∙ cond_false _ _ _ (sym (cond_false _ _ _ n) ∙ f))

  pub by_key : is_given s at place voice ≡ false → (k : Key) (alter : ℕ) → alter ≡ key_alter k step
      → record { step = step; octave = octave; alter = alter; cents = 128 } ≡ pitch_for (or_key k plainly (recalled s at count voice step octave))
  unfolding or_key
  by_key f k alter a =
      (λ i. record { step = step; octave = octave; alter = a i; cents = 128 })
      ∙ ap (λ (o : Option Pitch). pitch_for (or_key k plainly o)) (sym (not_given f) ∙ ap (λ (p : ℕ). recalled_at s at p voice step octave) e)

module _ (s : List ℕ) (at count : ℕ) (state : AbcPartParseState) (voice : ℕ) (p : code.Pitch) (in_four : voice < 4) (a-step : p.step < 7) (an-octave : p.octave < 256) where
  -- BY ITS OWN ACCIDENTAL
  module _ (alter cents : ℕ) (m : p.sign ≡ sign.Written alter cents) (room : at + scope_index_width + scope_row_width * (count + signs p.sign) ≤ length s) (small : count + signs p.sign < 2 ^ 32) where
    abbrev a : Accidental
    a = record { alter = alter; cents = cents }

    marked : sign_of p.sign ≡ some (record { alter = alter; cents = cents })
    marked = ap sign_of m

    one : signs p.sign ≡ 1
    one = ap signs m

    pub marked_taken : (s₁ : List ℕ) (row : Row) → s₁ ≡ store_with s at count p.step p.octave → row ≡ row_with s at count p.step p.octave → Taken s at count p.step p.octave s₁ row
    marked_taken s₁ row = taken s at count p.step p.octave a-step an-octave (omega (arith, small, one)) (omega (arith, room, one)) s₁ row

    pub by_own : (s₁ s' : List ℕ) (row : Row) → s₁ ≡ store_with s at count p.step p.octave → row ≡ row_with s at count p.step p.octave → s' ≡ splice s₁ (slot_at at row.place voice) (scope_slot alter cents)
        → (t : AbcPartParseState) → t ≡ entered state voice row.place
        → ResolvedAs s at count state voice p s' (record { sounded = record { step = p.step; octave = p.octave; alter = alter; cents = cents }; state = t; count = row.count })
    unfolding altered
    by_own s₁ s' row e f g t d =
        let k = marked_taken s₁ row e f in
        let hi = at + scope_index_width + scope_row_width * (count + signs p.sign) in
        record {
          only =
              only_then (only_wider k.only at hi (omega arith) (omega (arith, one)))
              (only_splice at hi s₁ s' (slot_at at row.place voice) (scope_slot alter cents) g (omega arith) (omega (arith, one, k.some_place, k.inside, k.most)));
          same_fifths = ap (λ (x : AbcPartParseState). x.fifths) d;
          same_minor = ap (λ (x : AbcPartParseState). x.minor) d;
          rows_most = omega (arith, one, k.most);
          sounds = λ key scopes q sc. ap pitch_for (sym (sound_marked key (get_or scopes voice []) (written_of p) a marked));
          keeps =
              λ scopes sc. subst (λ (x : AbcPartParseState). Scoped s' at row.count x.scopes (alter_at voice (λ old. scope_after old (written_of p)) scopes)) (sym d)
              (subst (λ (h : Scope → Scope). Scoped s' at row.count (set state.scopes voice row.place) (alter_at voice h scopes)) (λ i old. scope_marked old (written_of p) a marked i)
              (scoped_given (k.keeps state.scopes scopes sc) s' voice (written_of p) a row.place g in_four a-step an-octave k.some_place k.is (omega (arith, room, one, k.most, k.only.same_length))));
        }

  -- WITHOUT ONE nothing is written
  pub by_scope : p.sign ≡ sign.Nothing → (r : Sounded) → ((k : Key) → k.fifths ≡ state.fifths → r ≡ pitch_for (or_key k (record { step = p.step; octave = p.octave; sign = none }) (recalled s at count voice p.step p.octave)))
      → ResolvedAs s at count state voice p s (record { sounded = r; state = state; count = count })
  unfolding or_key
  by_scope m r e =
      let unmarked : sign_of p.sign ≡ none = ap sign_of m in
      record {
        only = only_none at (at + scope_index_width + scope_row_width * (count + signs p.sign)) s;
        same_fifths = refl;
        same_minor = refl;
        rows_most = omega arith;
        sounds =
            λ k scopes f sc. e k f
            ∙ ap (λ (o : Option Accidental). pitch_for (or_key k (record { step = p.step; octave = p.octave; sign = o }) (recalled s at count voice p.step p.octave))) (sym unmarked)
            ∙ ap pitch_for (sym (sound_unmarked k (get_or scopes voice []) (written_of p) unmarked ∙ ap (or_key k (written_of p)) (sc.recalls voice (written_of p) in_four a-step an-octave)));
        keeps = λ scopes sc. scoped_same sc voice (λ old. scope_after old (written_of p)) (λ old. scope_unmarked old (written_of p) unmarked) in_four;
      }
