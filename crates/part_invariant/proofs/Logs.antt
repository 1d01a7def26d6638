-- THE LOG AND THE HEADS: the open head by its index, counts below the log's length, and what a change of a beam or a value leaves of the pitches.
use Prim.Native.Nat.{ℕ, zero, suc, ◌-◌, ◌≤◌, ◌<◌}
use mathlib.Core.Path.{◌≡◌, refl, ap, ◌∙◌}
use mathlib.Core.Option.{Option, none, some}
use mathlib.Core.List.{List, [], ◌∷◌, ◌++◌, map, append-nil}
use native.Mathlib.Nat.{not-suc-le-zero, le_of_suc-le-suc}
use native.Mathlib.Omega.{arith}
use lib.Dec.{eqb}
use lib.ListN.{length, get_or}
use Rattle.laws.specs.Lists.{alter_at, concat, sum}
use Rattle.laws.proofs.Bools.{by_test}
use Rattle.laws.proofs.Lists.{map_append, concat_append, All-get_or, get_or_sum}
use Rattle.standard.specs.Pitches.{Pitch}
use Rattle.reader.specs.State as State
use Rattle.reader.specs.State.{Note}
use Rattle.reader.specs.Part.{can_beam, grouped, broken_note, halved_note, after_half}
use Rattle.part_layout.specs.Log.{Head, LogState, on_last_head, at_place, beamed_new, beamed_before, notes_in}
use Rattle.part_layout.specs.Lines.{Standing}
use Rattle.part_invariant.specs.Invariant.{pitches_in}

-- THE OPEN HEAD is the last one
pub last_head : (f : Head → Head) (hs : List Head) → 0 < length hs → on_last_head f hs ≡ alter_at (length hs - 1) f hs
unfolding on_last_head
last_head f [] h = absurd (not-suc-le-zero h)
last_head f (m ∷ []) h = refl
last_head f (m ∷ n ∷ ms) h =
    let e : suc (suc (length ms) - 1) ≡ suc (suc (length ms)) - 1 = omega arith in
    ap (λ (l : List Head). m ∷ l) (last_head f (n ∷ ms) (omega arith)) ∙ ap (λ (k : ℕ). alter_at k f (m ∷ n ∷ ms)) e

-- a count is at most the notes of its head, and those at most all
head_sum : (hs : List Head) (i : ℕ) (d : Head) → i < length hs → notes_in (get_or hs i d) ≤ sum notes_in hs
head_sum [] i d h = absurd (not-suc-le-zero h)
head_sum (m ∷ ms) zero d h = omega arith
head_sum (m ∷ ms) (suc i) d h = omega (arith, head_sum ms i d (le_of_suc-le-suc h))

pub count_most : (l : LogState) → Standing l → (i v : ℕ) (d : Head) → i < length l.heads → get_or (get_or l.heads i d).counts v 0 ≤ length l.log
unfolding notes_in
count_most l h i v d k = omega (arith, get_or_sum (get_or l.heads i d).counts v, head_sum l.heads i d k, h.fits.all_notes_lem)

pub counts_4 : (l : LogState) → Standing l → (i : ℕ) (d : Head) → i < length l.heads → length (get_or l.heads i d).counts ≡ 4
counts_4 l h i d k = All-get_or (λ (m : Head). length m.counts ≡ 4) l.heads h.fits.four_counts i d k

-- PLACES
alter_same : {A : Type 0} (i : ℕ) (f : A → A) → ((x : A) → f x ≡ x) → (xs : List A) → alter_at i f xs ≡ xs
alter_same i f e [] = refl
alter_same zero f e (x ∷ xs) = ap (λ y. y ∷ xs) (e x)
alter_same (suc i) f e (x ∷ xs) = ap (λ ys. x ∷ ys) (alter_same i f e xs)

-- a change that changes nothing
pub place_same : (p : ℕ) (f : Note → Note) → ((x : Note) → f x ≡ x) → (log : List (ℕ × Note)) → at_place p f log ≡ log
unfolding at_place
place_same zero f e log = refl
place_same (suc i) f e log = alter_same i (λ (x : ℕ × Note). (x.0, f x.1)) (λ x. λ j. (x.0, e x.1 j)) log

-- one at a place, by its index
pub place_at : (p : ℕ) (f : Note → Note) (log : List (ℕ × Note)) → 0 < p → at_place p f log ≡ alter_at (p - 1) (λ (x : ℕ × Note). (x.0, f x.1)) log
unfolding at_place
place_at zero f log h = absurd (not-suc-le-zero h)
place_at (suc i) f log h = let e : i ≡ suc i - 1 = omega arith in ap (λ (k : ℕ). alter_at k (λ (x : ℕ × Note). (x.0, f x.1)) log) e

-- PITCHES
alter_pitches : (i : ℕ) (f : Note → Note) → ((x : Note) → (f x).pitches ≡ x.pitches) → (log : List (ℕ × Note)) → pitches_in (alter_at i (λ (x : ℕ × Note). (x.0, f x.1)) log) ≡ pitches_in log
alter_pitches i f e [] = refl
alter_pitches zero f e (x ∷ xs) = ap (λ (l : List Pitch). l ++ pitches_in xs) (e x.1)
alter_pitches (suc i) f e (x ∷ xs) = ap (λ (l : List Pitch). x.1.pitches ++ l) (alter_pitches i f e xs)

pub place_pitches : (p : ℕ) (f : Note → Note) → ((x : Note) → (f x).pitches ≡ x.pitches) → (log : List (ℕ × Note)) → pitches_in (at_place p f log) ≡ pitches_in log
unfolding at_place
place_pitches zero f e log = refl
place_pitches (suc i) f e log = alter_pitches i f e log

pub more_pitches : (log : List (ℕ × Note)) (x : ℕ × Note) → pitches_in (log ++ (x ∷ [])) ≡ pitches_in log ++ x.1.pitches
more_pitches log x =
    ap concat (map_append (λ (y : ℕ × Note). y.1.pitches) log (x ∷ [])) ∙ concat_append (map (λ (y : ℕ × Note). y.1.pitches) log) (x.1.pitches ∷ [])
    ∙ ap (λ (l : List Pitch). pitches_in log ++ l) (append-nil x.1.pitches)

pub before_pitches : (r : ℕ) (n x : Note) → (beamed_before r n x).pitches ≡ x.pitches
unfolding beamed_before
before_pitches zero n x = refl
before_pitches (suc r) n x = by_test (can_beam n) (λ e. rw e) (λ e. rw e)

new_pitches : (r : ℕ) (x : Note) → (beamed_new r x).pitches ≡ x.pitches
unfolding beamed_new
new_pitches zero x = refl
new_pitches (suc r) x = by_test (can_beam x) (λ e. rw e) (λ e. rw e)

group_pitches : (t : Option State.Running) (x : Note) → (grouped t x).pitches ≡ x.pitches
unfolding grouped
group_pitches none x = refl
group_pitches (some t) x = refl

pub broken_pitches : (h : State.Half) (x : Note) → (broken_note h x).pitches ≡ x.pitches
unfolding broken_note halved_note
broken_pitches h x = by_test h.up (λ e. rw (e, broken_note)) (λ e. rw (e, broken_note) (by_test (eqb x.value 10) (λ f. rw (f, halved_note)) (λ f. rw (f, halved_note))))

half_pitches : (h : Option State.Half) (x : Note) → (after_half h x).pitches ≡ x.pitches
unfolding after_half
half_pitches none x = refl
half_pitches (some h) x = broken_pitches h x

-- the note that is appended
pub final_pitches : (t : Option State.Running) (r : ℕ) (h : Option State.Half) (x : Note) → (after_half h (beamed_new r (grouped t x))).pitches ≡ x.pitches
final_pitches t r h x = half_pitches h (beamed_new r (grouped t x)) ∙ new_pitches r (grouped t x) ∙ group_pitches t x
