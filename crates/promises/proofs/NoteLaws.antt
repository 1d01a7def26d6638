-- WHAT LEAVES A NOTE'S KIND AND FLAGS AS THEY WERE, and what leaves the notes of a measure.
use Prim.Native.Nat.{ℕ, zero, suc}
use mathlib.Core.Path.{◌≡◌, refl, ap}
use mathlib.Core.Option.{Option, none, some}
use mathlib.Core.List.{List, [], ◌∷◌, map}
use lib.Dec.{eqb}
use Rattle.laws.proofs.Bools.{by_test}
use Rattle.standard.specs.Keys.{Key}
use Rattle.standard.specs.Bars.{Barline, normal, repeat_start, repeat_end, repeat_both, double, final}
use Rattle.reader.specs.State.{Note, Measure, Half, Running}
use Rattle.reader.specs.Voltas.{starts, ends_at, close}
use Rattle.reader.specs.Part.{halved_note, broken_note, after_half, can_beam, beamed_again, grouped, left_set, marked_by, marked}

-- NOTES: what a beam, a broken rhythm and a tuplet leave as it was
abbrev pub Kept : (Note → Note) → Type 0
Kept f = (x : Note) → ((f x).kind ≡ x.kind) × ((f x).flags ≡ x.flags)

halved_kept : (n : ℕ) → Kept (halved_note n)
unfolding halved_note
halved_kept n x = by_test (eqb x.value 10) (λ e. rw (e, halved_note) (refl, refl)) (λ e. rw (e, halved_note) (refl, refl))

pub broken_kept : (h : Half) → Kept (broken_note h)
unfolding broken_note
broken_kept h x = by_test h.up (λ e. rw (e, broken_note) (refl, refl)) (λ e. rw (e, broken_note) (halved_kept h.times x))

pub half_kept : (o : Option Half) → Kept (after_half o)
unfolding after_half
half_kept none x = (refl, refl)
half_kept (some h) x = broken_kept h x

pub again_kept : (r : ℕ) → Kept (beamed_again r)
unfolding beamed_again
again_kept zero x = by_test (can_beam x) (λ e. rw (e, beamed_again) (refl, refl)) (λ e. rw (e, beamed_again) (refl, refl))
again_kept (suc r) x = (refl, refl)

pub grouped_kept : (o : Option Running) → Kept (grouped o)
unfolding grouped
grouped_kept none x = (refl, refl)
grouped_kept (some t) x = (refl, refl)

-- MEASURES: their notes, by their voices
abbrev pub voices_of : List Measure → List (List (List Note))
voices_of ms = map (λ (m : Measure). m.voices) ms

-- a left barline leaves them
pub left_voices : (b : Barline) (m : Measure) → (left_set b m).voices ≡ m.voices
unfolding left_set
left_voices normal m = refl
left_voices repeat_start m = refl
left_voices repeat_end m = refl
left_voices repeat_both m = refl
left_voices double m = refl
left_voices final m = refl

-- voltas and key marks leave the notes
same_on : (m : Measure) (ms : List Measure) {vss : List (List (List Note))} → vss ≡ voices_of ms → m.voices ∷ vss ≡ voices_of (m ∷ ms)
same_on m ms e = ap (λ (l : List (List (List Note))). m.voices ∷ l) e

pub close_voices : (o : Option (List ℕ)) (ms : List Measure) → voices_of (close o ms) ≡ voices_of ms
unfolding close
close_voices o [] = refl
close_voices none (m ∷ ms) =
    by_test (starts m)
    (λ a. rw (a, close) (by_test (ends_at m ms) (λ e. rw (e, close) (same_on m ms (close_voices none ms))) (λ e. rw (e, close) (same_on m ms (close_voices (some m.passes) ms)))))
    (λ a. rw (a, close) (same_on m ms (close_voices none ms)))
close_voices (some ps) (m ∷ ms) =
    by_test (ends_at m ms) (λ e. rw (e, close) (same_on m ms (close_voices none ms))) (λ e. rw (e, close) (same_on m ms (close_voices (some ps) ms)))

mark_voices : (h : Key) (m : Measure) (o : Option Key) → (marked_by h m o).voices ≡ m.voices
unfolding marked_by
mark_voices h m none = refl
mark_voices h m (some k) = refl

pub marked_voices : (h : Key) (ms : List Measure) → voices_of (marked h ms) ≡ voices_of ms
unfolding marked
marked_voices h [] = refl
marked_voices h (m ∷ ms) = ap (λ (vs : List (List Note)). vs ∷ voices_of ms) (mark_voices h m m.key)
