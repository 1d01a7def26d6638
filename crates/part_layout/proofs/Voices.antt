-- The notes of a measure, newest first, each with its voice: those of one voice, the place of the last one in the log, and a change of it.
use Prim.Native.Nat.{ℕ, zero, suc, ◌+◌, ◌-◌, ◌≤◌, ◌<◌}
use mathlib.Core.Path.{◌≡◌, refl, sym, ap, ◌∙◌}
use mathlib.Core.Bool.{false, cond}
use mathlib.Core.Option.{Option, none, some}
use mathlib.Core.List.{List, [], ◌∷◌, ◌++◌}
use native.Mathlib.Omega.{arith}
use lib.Dec.{eqb}
use lib.ListN.{length, get_or, get_or-append}
use lib.Seq.{get_or-append-add}
use borrow.Author.Tests.{eqb-true}
use Rattle.laws.specs.Lists.{on_first, All}
use Rattle.laws.proofs.Bools.{by_test, eqb_same}
use Rattle.reader.specs.State.{Note}
use Rattle.part_layout.specs.Log.{at_place, note_at}
use Rattle.part_layout.proofs.Back.{back, length_back, alter_at_left, alter_at_last}

-- the notes of voice v
abbrev pub voice : ℕ → List (ℕ × Note) → List Note
voice v [] = []
voice v (x ∷ xs) = cond (eqb x.0 v) (x.1 ∷ voice v xs) (voice v xs)

-- the place of the last one, from 1, where k notes stand before the measure; 0 if there is none
abbrev pub last_of : ℕ → ℕ → List (ℕ × Note) → ℕ
last_of v k [] = 0
last_of v k (x ∷ xs) = cond (eqb x.0 v) (suc (k + length xs)) (last_of v k xs)

-- the last one changed
abbrev pub on_voice : ℕ → (Note → Note) → List (ℕ × Note) → List (ℕ × Note)
on_voice v f [] = []
on_voice v f (x ∷ xs) = cond (eqb x.0 v) ((x.0, f x.1) ∷ xs) (x ∷ on_voice v f xs)

-- its first, if there is one
abbrev pub first_of : List Note → Option Note
first_of [] = none
first_of (x ∷ xs) = some x

-- A CHANGE OF THE LAST NOTE OF VOICE v
-- as many notes
pub length_on_voice : (v : ℕ) (f : Note → Note) (xs : List (ℕ × Note)) → length (on_voice v f xs) ≡ length xs
length_on_voice v f [] = refl
length_on_voice v f (x ∷ xs) = by_test (eqb x.0 v) (λ e. rw e) (λ e. rw e (ap suc (length_on_voice v f xs)))

-- the voices are the same
pub All-on_voice : (P : ℕ → Type 0) (v : ℕ) (f : Note → Note) (xs : List (ℕ × Note)) → All (λ (x : ℕ × Note). P x.0) xs → All (λ (x : ℕ × Note). P x.0) (on_voice v f xs)
All-on_voice P v f [] p = tt
All-on_voice P v f (x ∷ xs) p = by_test (eqb x.0 v) (λ e. rw e p) (λ e. rw e (p.0, All-on_voice P v f xs p.1))

-- in that voice the first is changed
pub voice_on_voice : (v : ℕ) (f : Note → Note) (xs : List (ℕ × Note)) → voice v (on_voice v f xs) ≡ on_first f (voice v xs)
voice_on_voice v f [] = refl
voice_on_voice v f (x ∷ xs) = by_test (eqb x.0 v) (λ e. rw e (rw e)) (λ e. rw e (rw e (voice_on_voice v f xs)))

-- in another nothing is
pub other_on_voice : (v w : ℕ) (f : Note → Note) (xs : List (ℕ × Note)) → eqb v w ≡ false → voice w (on_voice v f xs) ≡ voice w xs
other_on_voice v w f [] h = refl
other_on_voice v w f (x ∷ xs) h =
    by_test (eqb x.0 v) (λ e. let n : eqb x.0 w ≡ false = ap (λ (a : ℕ). eqb a w) (eqb-true x.0 v e) ∙ h in rw e (rw n))
    (λ e. rw e (ap (λ (l : List Note). cond (eqb x.0 w) (x.1 ∷ l) l) (other_on_voice v w f xs h)))

-- the last places are the same
pub last_of_on_voice : (v w k : ℕ) (f : Note → Note) (xs : List (ℕ × Note)) → last_of w k (on_voice v f xs) ≡ last_of w k xs
last_of_on_voice v w k f [] = refl
last_of_on_voice v w k f (x ∷ xs) =
    by_test (eqb x.0 v) (λ e. rw e refl)
    (λ e. rw e (λ i. cond (eqb x.0 w) (suc (k + length_on_voice v f xs i)) (last_of_on_voice v w k f xs i)))

-- THE LAST PLACE
-- it lies in the log
pub last_of_le : (v k : ℕ) (xs : List (ℕ × Note)) → last_of v k xs ≤ k + length xs
last_of_le v k [] = omega arith
last_of_le v k (x ∷ xs) = by_test (eqb x.0 v) (λ e. rw e (omega arith)) (λ e. rw e (omega (arith, last_of_le v k xs)))

-- a change at a place of the first of two lists
at_place_left : (i : ℕ) (f : Note → Note) (a b : List (ℕ × Note)) → i ≤ length a → at_place i f (a ++ b) ≡ at_place i f a ++ b
unfolding at_place
at_place_left zero f a b h = refl
at_place_left (suc i) f a b h = alter_at_left i _ a b h

-- and of the last element
at_place_last : (f : Note → Note) (a : List (ℕ × Note)) (x : ℕ × Note) → at_place (suc (length a)) f (a ++ (x ∷ [])) ≡ a ++ ((x.0, f x.1) ∷ [])
unfolding at_place
at_place_last f a x = alter_at_last _ a x

-- a change at the last place of voice v is a change of its last note
pub at_place_last_of : (v : ℕ) (f : Note → Note) (older xs : List (ℕ × Note)) → at_place (last_of v (length older) xs) f (back older xs) ≡ back older (on_voice v f xs)
unfolding at_place
at_place_last_of v f older [] = refl
at_place_last_of v f older (x ∷ xs) =
    by_test (eqb x.0 v)
    (λ e. rw e (ap (λ (i : ℕ). at_place (suc i) f (back older xs ++ (x ∷ []))) (sym (length_back older xs)) ∙ at_place_last f (back older xs) x))
    (λ e. rw e (at_place_left (last_of v (length older) xs) f (back older xs) (x ∷ []) (omega (arith, last_of_le v (length older) xs, length_back older xs))
    ∙ ap (λ (l : List (ℕ × Note)). l ++ (x ∷ [])) (at_place_last_of v f older xs)))

-- the note at a place of the first of two lists
note_at_left : (i : ℕ) (a b : List (ℕ × Note)) → i ≤ length a → note_at i (a ++ b) ≡ note_at i a
unfolding note_at
note_at_left zero a b h = refl
note_at_left (suc i) [] b h = absurd (omega (arith, h))
note_at_left (suc zero) (x ∷ a) b h = refl
note_at_left (suc (suc i)) (x ∷ a) b h = note_at_left (suc i) a b (omega (arith, h))

-- and the last element
note_at_last : (a : List (ℕ × Note)) (x : ℕ × Note) → note_at (suc (length a)) (a ++ (x ∷ [])) ≡ some x.1
unfolding note_at
note_at_last [] x = refl
note_at_last (y ∷ a) x = note_at_last a x

-- the note at the last place of voice v is its last note
pub note_at_last_of : (v : ℕ) (older xs : List (ℕ × Note)) → note_at (last_of v (length older) xs) (back older xs) ≡ first_of (voice v xs)
unfolding note_at
note_at_last_of v older [] = refl
note_at_last_of v older (x ∷ xs) =
    by_test (eqb x.0 v)
    (λ e. rw e (ap (λ (i : ℕ). note_at (suc i) (back older xs ++ (x ∷ []))) (sym (length_back older xs)) ∙ note_at_last (back older xs) x))
    (λ e. rw e (note_at_left (last_of v (length older) xs) (back older xs) (x ∷ []) (omega (arith, last_of_le v (length older) xs, length_back older xs))
    ∙ note_at_last_of v older xs))

-- a voice with no note and last place 0, or with both
pub data Found (place : ℕ) (notes : List Note) : Type 0 where
  no_note : place ≡ 0 → notes ≡ [] → Found place notes
  last_note : (i : ℕ) (x : Note) (xs : List Note) → place ≡ suc i → notes ≡ x ∷ xs → Found place notes

-- one of both
pub found : (v k : ℕ) (xs : List (ℕ × Note)) → Found (last_of v k xs) (voice v xs)
found v k [] = no_note refl refl
found v k (x ∷ xs) = by_test (eqb x.0 v) (λ e. rw e (last_note (k + length xs) x.1 (voice v xs) refl refl)) (λ e. rw e (found v k xs))

-- ONE NOTE MORE of voice v, with a change of the one before it
-- in that voice
pub voice_new : (v : ℕ) (n : Note) (f : Note → Note) (xs : List (ℕ × Note)) → voice v ((v, n) ∷ on_voice v f xs) ≡ n ∷ on_first f (voice v xs)
voice_new v n f xs = rw (eqb_same v) (ap (λ (l : List Note). n ∷ l) (voice_on_voice v f xs))

-- in another
pub other_new : (v w : ℕ) (n : Note) (f : Note → Note) (xs : List (ℕ × Note)) → eqb v w ≡ false → voice w ((v, n) ∷ on_voice v f xs) ≡ voice w xs
other_new v w n f xs h = rw h (other_on_voice v w f xs h)

-- the last place of that voice
pub last_of_new : (v k : ℕ) (n : Note) (f : Note → Note) (xs : List (ℕ × Note)) → last_of v k ((v, n) ∷ on_voice v f xs) ≡ suc (k + length xs)
last_of_new v k n f xs = rw (eqb_same v) (ap (λ (i : ℕ). suc (k + i)) (length_on_voice v f xs))

-- of another
pub last_of_other : (v w k : ℕ) (n : Note) (f : Note → Note) (xs : List (ℕ × Note)) → eqb v w ≡ false → last_of w k ((v, n) ∷ on_voice v f xs) ≡ last_of w k xs
last_of_other v w k n f xs h = rw h (last_of_on_voice v w k f xs)

-- each voice has as many notes after a change of a last note
pub count_on_voice : (v w : ℕ) (f : Note → Note) (xs : List (ℕ × Note)) → length (voice w (on_voice v f xs)) ≡ length (voice w xs)
count_on_voice v w f [] = refl
count_on_voice v w f (x ∷ xs) =
    by_test (eqb x.0 v) (λ e. rw e (by_test (eqb x.0 w) (λ q. rw q) (λ q. rw q)))
    (λ e. rw e (by_test (eqb x.0 w) (λ q. rw q (ap suc (count_on_voice v w f xs))) (λ q. rw q (count_on_voice v w f xs))))

-- WHERE THE LAST PLACE LIES: past the older notes
pub last_of_open : (v k : ℕ) (xs : List (ℕ × Note)) → 0 < last_of v k xs → k < last_of v k xs
last_of_open v k [] h = absurd (omega (arith, h))
last_of_open v k (x ∷ xs) h = by_test (eqb x.0 v) (λ e. rw e (omega arith)) (λ e. rw e (last_of_open v k xs (rw e at h)))

-- a note of that voice stands there
pub last_of_voice : (v : ℕ) (older xs : List (ℕ × Note)) (d : ℕ × Note) → 0 < last_of v (length older) xs → (get_or (back older xs) (last_of v (length older) xs - 1) d).0 ≡ v
last_of_voice v older [] d h = absurd (omega (arith, h))
last_of_voice v older (x ∷ xs) d h =
    by_test (eqb x.0 v)
    (λ e. rw e (ap (λ (i : ℕ). (get_or (back older xs ++ (x ∷ [])) i d).0) (omega (arith, length_back older xs)) ∙ ap (λ (y : ℕ × Note). y.0) (get_or-append-add (back older xs) (x ∷ []) 0 d) ∙ eqb-true x.0 v e))
    (λ e. let k : 0 < last_of v (length older) xs = rw e at h in
    rw e (ap (λ (y : ℕ × Note). y.0) (get_or-append (back older xs) (x ∷ []) d (last_of v (length older) xs - 1) (omega (arith, k, last_of_le v (length older) xs, length_back older xs)))
    ∙ last_of_voice v older xs d k))

-- none: the voice has no note
pub last_of_none : (v k : ℕ) (xs : List (ℕ × Note)) → last_of v k xs ≡ 0 → length (voice v xs) ≡ 0
last_of_none v k [] h = refl
last_of_none v k (x ∷ xs) h = by_test (eqb x.0 v) (λ e. absurd (let z : suc (k + length xs) ≡ 0 = rw e at h in omega (arith, z))) (λ e. rw e (last_of_none v k xs (rw e at h)))

-- and the other way round
pub none_last_of : (v k : ℕ) (xs : List (ℕ × Note)) → length (voice v xs) ≡ 0 → last_of v k xs ≡ 0
none_last_of v k [] h = refl
none_last_of v k (x ∷ xs) h = by_test (eqb x.0 v) (λ e. absurd (let z : suc (length (voice v xs)) ≡ 0 = rw e at h in omega (arith, z))) (λ e. rw e (none_last_of v k xs (rw e at h)))
