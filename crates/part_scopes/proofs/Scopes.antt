-- THE FOUR SCOPES IN SCRATCH: what a row more, an accidental given and a write elsewhere make of them.
use Prim.Native.Nat.{ℕ, zero, suc, ◌+◌, ◌*◌, ◌^◌, ◌≤◌, ◌<◌}
use mathlib.Core.Path.{◌≡◌, refl, sym, ap, subst, ◌∙◌}
use mathlib.Core.Bool.{Bool, true, false, ◌&&◌}
use mathlib.Core.Option.{none, some}
use mathlib.Core.List.{List, [], ◌∷◌}
use native.Mathlib.Omega.{arith}
use lib.Dec.{eqb}
use borrow.Author.Tests.{eq-eqb, eqb-true, eqb-false}
use lib.ListN.{length, get_or, set, length-set}
use lib.Seq.{get_or-set_same, get_or-set_other}
use Rattle.laws.specs.Bytes.{splice}
use Rattle.laws.specs.Lists.{alter_at}
use Rattle.laws.proofs.Bools.{by_test, and_both, and_left, and_right, never_true}
use Rattle.laws.proofs.Lists.{length_alter_at, get_or_alter_at, get_or_alter_at_other}
use Rattle.laws.proofs.Splices.{byte_above}
use Rattle.standard.specs.Pitches.{Accidental, Written, Pitch, altered}
use Rattle.reader.specs.Pitches.{Scope, remembered}
use Rattle.reader.specs.State.{no_scopes}
use Rattle.part_rows.specs.Encoded.{scope_slot, scope_row_width, scope_index_width}
use Rattle.part_scopes.specs.Scopes.{slot_at, place_in, recalled_at, recalled, with_row, Newest, Scoped}
use Rattle.part_scopes.proofs.Places.{Borne, place_borne, place_inside, place_over, recalled_none, kept_place, kept_recalled, slot_place, slot_other, slot_own, row_place, other_place, row_other, row_empty}

-- WHAT IS REMEMBERED
-- it is of this step and octave
abbrev fits : Pitch → Written → Bool
fits x w = eqb x.step w.step && eqb x.octave w.octave

remembers_own : (x : Pitch) (sc : Scope) (w : Written) → x.step ≡ w.step → x.octave ≡ w.octave → remembered (x ∷ sc) w ≡ some x
unfolding remembered
remembers_own x sc w e f = let t : fits x w ≡ true = and_both _ _ (eq-eqb _ _ e) (eq-eqb _ _ f) in rw (t, remembered)

remembers_other : (x : Pitch) (sc : Scope) (w : Written) → (x.step ≡ w.step → x.octave ≡ w.octave → ⊥) → remembered (x ∷ sc) w ≡ remembered sc w
unfolding remembered
remembers_other x sc w n =
    let f : fits x w ≡ false = never_true _ (λ t. n (eqb-true _ _ (and_left _ _ t)) (eqb-true _ _ (and_right (eqb x.step w.step) _ t))) in
    rw (f, remembered)

-- either of this step and octave or not
either : {P : Type 0} (a b c d : ℕ) → (a ≡ c → b ≡ d → P) → ((a ≡ c → b ≡ d → ⊥) → P) → P
either a b c d same other =
    by_test (eqb a c) (λ t. by_test (eqb b d) (λ u. same (eqb-true a c t) (eqb-true b d u)) (λ f. other (λ x y. eqb-false b d f y))) (λ f. other (λ x y. eqb-false a c f x))

-- NONE, and no row
four_none : (v : ℕ) → v < 4 → get_or no_scopes v [] ≡ []
four_none zero h = refl
four_none (suc zero) h = refl
four_none (suc (suc zero)) h = refl
four_none (suc (suc (suc zero))) h = refl
four_none (suc (suc (suc (suc v)))) h = absurd (omega arith)

forgets_none : (w : Written) → remembered [] w ≡ none
unfolding remembered
forgets_none w = refl

pub scoped_none : (s : List ℕ) (at : ℕ) (places : List ℕ) → length places ≡ 4 → ((v : ℕ) → v < 4 → get_or places v 0 ≡ 0) → Scoped s at 0 places no_scopes
scoped_none s at places four h =
    record {
      places_4 = four;
      scopes_4 = refl;
      recalls =
          λ v w k l m. ap (λ (c : Scope). remembered c w) (four_none v k) ∙ forgets_none w ∙ sym (recalled_none s at v w.step w.octave)
          ∙ ap (λ (p : ℕ). recalled_at s at p v w.step w.octave) (sym (place_over s at 0 w.step w.octave refl));
      newest = λ v k. subst (Newest s at 0 (get_or places v 0)) (sym (four_none v k)) (h v k);
    }

-- the newest accidental's place, where the index says the same
newest_as : (s s' : List ℕ) (at count count' place : ℕ) (sc : Scope)
    → ((step octave : ℕ) → step < 7 → octave < 256 → 0 < place_in s at count step octave → place_in s' at count' step octave ≡ place_in s at count step octave) → Newest s at count place sc → Newest s' at count' place sc
newest_as s s' at count count' place [] same h = h
newest_as s s' at count count' place (x ∷ xs) same h =
    (h.0, h.1, h.2, same x.step x.octave h.1 h.2 (omega (arith, h.0, h.3)) ∙ h.3)

module _ {s : List ℕ} {at count : ℕ} {places : List ℕ} {scopes : List Scope} (h : Scoped s at count places scopes) where
  -- A WRITE BEFORE THE INDEX
  pub scoped_behind : (s' : List ℕ) (k : ℕ) (bs : List ℕ) → s' ≡ splice s k bs → k + length bs ≤ at → Scoped s' at count places scopes
  scoped_behind s' k bs e l =
      let same : (j : ℕ) → at ≤ j → get_or s' j 0 ≡ get_or s j 0 = λ j m. ap (λ (x : List ℕ). get_or x j 0) e ∙ byte_above s k bs j (omega arith) in
      record {
        places_4 = h.places_4;
        scopes_4 = h.scopes_4;
        recalls =
            λ v w i m o. h.recalls v w i m o ∙ sym (kept_recalled s s' at same (place_in s at count w.step w.octave) v w.step w.octave)
            ∙ ap (λ (p : ℕ). recalled_at s' at p v w.step w.octave) (sym (kept_place s s' at same count w.step w.octave));
        newest = λ v i. newest_as s s' at count count (get_or places v 0) (get_or scopes v []) (λ a b m o p. kept_place s s' at same count a b) (h.newest v i);
      }

  -- scopes by another name
  pub scoped_same : (voice : ℕ) (f : Scope → Scope) → ((c : Scope) → f c ≡ c) → voice < 4 → Scoped s at count places (alter_at voice f scopes)
  scoped_same voice f e k =
      let is : (v : ℕ) → get_or (alter_at voice f scopes) v [] ≡ get_or scopes v [] =
      λ v. by_test (eqb v voice)
      (λ t. ap (λ (i : ℕ). get_or (alter_at voice f scopes) i []) (eqb-true v voice t) ∙ get_or_alter_at voice f scopes [] (omega (arith, h.scopes_4)) ∙ e _ ∙ ap (λ (i : ℕ). get_or scopes i []) (sym (eqb-true v voice t)))
      (λ n. get_or_alter_at_other voice v f scopes [] (eqb-false v voice n)) in
      record {
        places_4 = h.places_4;
        scopes_4 = length_alter_at voice f scopes ∙ h.scopes_4;
        recalls = λ v w i l m. ap (λ (c : Scope). remembered c w) (is v) ∙ h.recalls v w i l m;
        newest = λ v i. subst (Newest s at count (get_or places v 0)) (sym (is v)) (h.newest v i);
      }

  -- A ROW MORE for a step and octave that have none
  pub scoped_row : (s' : List ℕ) (step octave : ℕ) → s' ≡ with_row s at count step octave → step < 7 → octave < 256 → count + 1 < 2 ^ 32 → at + scope_index_width + scope_row_width * (count + 1) ≤ length s
      → place_in s at count step octave ≡ 0 → Scoped s' at (count + 1) places scopes
  scoped_row s' step octave e sl ol small room z =
      let other = other_place s s' at count step octave e sl ol small room in
      record {
        places_4 = h.places_4;
        scopes_4 = h.scopes_4;
        recalls =
            λ v w k l m. h.recalls v w k l m
            ∙ either w.step w.octave step octave
            (λ x y.
            let was : place_in s at count w.step w.octave ≡ 0 = (λ i. place_in s at count (x i) (y i)) ∙ z in
            let is : place_in s' at (count + 1) w.step w.octave ≡ count + 1 = (λ i. place_in s' at (count + 1) (x i) (y i)) ∙ row_place s s' at count step octave e sl ol small room in
            ap (λ (p : ℕ). recalled_at s at p v w.step w.octave) was ∙ recalled_none s at v w.step w.octave
            ∙ sym (row_empty s s' at count step octave e sl ol small room v w.step w.octave k)
            ∙ ap (λ (p : ℕ). recalled_at s' at p v w.step w.octave) (sym is))
            (λ n. sym (row_other s s' at count step octave e sl ol small room (place_in s at count w.step w.octave) v w.step w.octave (place_inside s at count w.step w.octave) k)
            ∙ ap (λ (p : ℕ). recalled_at s' at p v w.step w.octave) (sym (other w.step w.octave m l n)));
        newest =
            λ v k. newest_as s s' at count (count + 1) (get_or places v 0) (get_or scopes v [])
            (λ a b l m some. other a b m l (λ x y. let y' : place_in s at count a b ≡ 0 = (λ i. place_in s at count (x i) (y i)) ∙ z in omega (arith, some, y'))) (h.newest v k);
      }

  -- AN ACCIDENTAL GIVEN in the row of its step and octave
  module _ (s' : List ℕ) (voice : ℕ) (w : Written) (a : Accidental) (q : ℕ) (e : s' ≡ splice s (slot_at at q voice) (scope_slot a.alter a.cents)) (in_four : voice < 4) (a-step : w.step < 7) (an-octave : w.octave < 256)
      (some_place : 0 < q) (is : place_in s at count w.step w.octave ≡ q) (room : at + scope_index_width + scope_row_width * count ≤ length s) where
    there : Borne s at count w.step w.octave q
    there = subst (Borne s at count w.step w.octave) is (place_borne s at count w.step w.octave (omega (arith, is)))

    place : (step octave : ℕ) → step < 7 → octave < 256 → place_in s' at count step octave ≡ place_in s at count step octave
    place = slot_place s s' at q voice a.alter a.cents e some_place in_four count

    -- the others' slots, and those of other rows
    kept : (v : ℕ) (u : Written) → v < 4 → u.step < 7 → u.octave < 256 → (v ≡ voice → u.step ≡ w.step → u.octave ≡ w.octave → ⊥)
        → recalled s at count v u.step u.octave ≡ recalled s' at count v u.step u.octave
    kept v u k l m n =
        sym (slot_other s s' at q voice a.alter a.cents e some_place in_four (place_in s at count u.step u.octave) v u.step u.octave k
        (λ i z y.
        let b = place_borne s at count u.step u.octave i in
        let c : Borne s at count u.step u.octave q = subst (Borne s at count u.step u.octave) z b in
        n y (sym c.same_step ∙ there.same_step) (sym c.same_octave ∙ there.same_octave)))
        ∙ ap (λ (p : ℕ). recalled_at s' at p v u.step u.octave) (sym (place u.step u.octave l m))

    -- its own
    own : (u : Written) → u.step < 7 → u.octave < 256 → u.step ≡ w.step → u.octave ≡ w.octave → some (altered w a) ≡ recalled s' at count voice u.step u.octave
    unfolding altered
    own u l m x y =
        let i = there.inside in
        let p : place_in s' at count u.step u.octave ≡ q = place u.step u.octave l m ∙ (λ j. place_in s at count (x j) (y j)) ∙ is in
        (λ j. some (record { step = sym x j; octave = sym y j; alter = a.alter; cents = a.cents }))
        ∙ sym (slot_own s s' at q voice a.alter a.cents e some_place in_four u.step u.octave (omega arith))
        ∙ ap (λ (j : ℕ). recalled_at s' at j voice u.step u.octave) (sym p)

    of_voice_lem : (P : ℕ → Scope → Type 0) → P q (altered w a ∷ get_or scopes voice []) → P (get_or (set places voice q) voice 0) (get_or (alter_at voice (λ old. altered w a ∷ old) scopes) voice [])
    of_voice_lem P x =
        subst (λ (p : ℕ). P p (get_or (alter_at voice (λ old. altered w a ∷ old) scopes) voice [])) (sym (get_or-set_same places voice q 0 (omega (arith, h.places_4))))
        (subst (P q) (sym (get_or_alter_at voice (λ old. altered w a ∷ old) scopes [] (omega (arith, h.scopes_4)))) x)

    of_others : (P : ℕ → Scope → Type 0) (v : ℕ) → (v ≡ voice → ⊥) → P (get_or places v 0) (get_or scopes v []) → P (get_or (set places voice q) v 0) (get_or (alter_at voice (λ old. altered w a ∷ old) scopes) v [])
    of_others P v n x =
        subst (λ (p : ℕ). P p (get_or (alter_at voice (λ old. altered w a ∷ old) scopes) v [])) (sym (get_or-set_other places voice v q 0 n))
        (subst (P (get_or places v 0)) (sym (get_or_alter_at_other voice v (λ old. altered w a ∷ old) scopes [] n)) x)

    abbrev Recalls : ℕ → Scope → Type 0
    Recalls v sc = (u : Written) → u.step < 7 → u.octave < 256 → remembered sc u ≡ recalled s' at count v u.step u.octave

    own_recalls : Recalls voice (altered w a ∷ get_or scopes voice [])
    unfolding altered
    own_recalls u l m =
        either u.step u.octave w.step w.octave (λ x y. remembers_own (altered w a) (get_or scopes voice []) u (sym x) (sym y) ∙ own u l m x y)
        (λ n. remembers_other (altered w a) (get_or scopes voice []) u (λ x y. n (sym x) (sym y)) ∙ h.recalls voice u in_four l m ∙ kept voice u in_four l m (λ z x y. n x y))

    own_newest : Newest s' at count q (altered w a ∷ get_or scopes voice [])
    unfolding altered
    own_newest = (some_place, a-step, an-octave, place w.step w.octave a-step an-octave ∙ is)

    pub scoped_given : Scoped s' at count (set places voice q) (alter_at voice (λ old. altered w a ∷ old) scopes)
    scoped_given =
        record {
          places_4 = length-set places voice q ∙ h.places_4;
          scopes_4 = length_alter_at voice (λ old. altered w a ∷ old) scopes ∙ h.scopes_4;
          recalls =
              λ v u k l m. by_test (eqb v voice)
              (λ t.
              let z = eqb-true v voice t in
              subst (λ (i : ℕ). remembered (get_or (alter_at voice (λ old. altered w a ∷ old) scopes) i []) u ≡ recalled s' at count i u.step u.octave) (sym z)
              (of_voice_lem (λ p sc. remembered sc u ≡ recalled s' at count voice u.step u.octave) (own_recalls u l m)))
              (λ f.
              let n = eqb-false v voice f in
              of_others (λ p sc. remembered sc u ≡ recalled s' at count v u.step u.octave) v n (h.recalls v u k l m ∙ kept v u k l m (λ z x y. n z)));
          newest =
              λ v k. by_test (eqb v voice)
              (λ t.
              let z = eqb-true v voice t in
              subst (λ (i : ℕ). Newest s' at count (get_or (set places voice q) i 0) (get_or (alter_at voice (λ old. altered w a ∷ old) scopes) i [])) (sym z) (of_voice_lem (λ p sc. Newest s' at count p sc) own_newest))
              (λ f.
              of_others (λ p sc. Newest s' at count p sc) v (eqb-false v voice f)
              (newest_as s s' at count count (get_or places v 0) (get_or scopes v []) (λ b c l m i. place b c l m) (h.newest v k)));
        }
