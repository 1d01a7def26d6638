-- CLOSED VOLTAS ARE WELL FORMED ("for each volta 1 a 2 before the next 1 or 3, with no other 2"): where only starts are marked, `closed` leaves no span open and no end alone.
use Prim.Native.Nat.{ℕ}
use mathlib.Core.Path.{◌≡◌, refl, sym, ap, ◌∙◌}
use mathlib.Core.Bool.{Bool, true, false, false≢true}
use mathlib.Core.Option.{Option, none, some}
use mathlib.Core.List.{List, [], ◌∷◌, map}
use Rattle.laws.specs.Lists.{foldl, All}
use Rattle.laws.proofs.Bools.{by_test, or_no_right}
use Rattle.laws.proofs.Lists.{map_map}
use Rattle.reader.specs.State.{Measure, Volta, no_volta, volta_begins, volta_ends, volta_alone}
use Rattle.reader.specs.Codes.{volta_code}
use Rattle.reader.specs.Voltas.{ends_ending, is_start, starts, last_there, ends_at, close, closed}
use Rattle.bounds.specs.Ranges.{VoltaOpen, VoltasClosed}
use Rattle.reading_whole.specs.Whole.{volta_step}

-- the row of codes of measures, read on from a state
abbrev codes : List Measure → List ℕ
codes ms = map (λ (m : Measure). volta_code m.volta) ms

abbrev read : Option Bool → List Measure → Option Bool
read o ms = foldl volta_step o (codes ms)

-- a start, and what is none
volta_start : (v : Volta) → is_start v ≡ true → volta_code v ≡ 1
unfolding is_start volta_code
volta_start no_volta e = absurd (false≢true e)
volta_start volta_begins e = refl
volta_start volta_ends e = absurd (false≢true e)
volta_start volta_alone e = absurd (false≢true e)

volta_plain : (v : Volta) → VoltaOpen v → is_start v ≡ false → volta_code v ≡ 0
unfolding is_start volta_code VoltaOpen
volta_plain no_volta o e = refl
volta_plain volta_begins o e = absurd (false≢true (sym e))
volta_plain volta_ends o e = absurd o
volta_plain volta_alone o e = absurd o

start_code : (m : Measure) → starts m ≡ true → volta_code m.volta ≡ 1
unfolding starts
start_code m e = volta_start m.volta e

plain_code : (m : Measure) → VoltaOpen m.volta → starts m ≡ false → volta_code m.volta ≡ 0
unfolding starts
plain_code m o e = volta_plain m.volta o e

-- no end here: another measure follows, and does not start
followed : (m : Measure) (ms : List Measure) → ends_at m ms ≡ false → last_there ms ≡ false
unfolding ends_at
followed m ms e = or_no_right (ends_ending m.right) (last_there ms) e

-- outside a span, and inside one that does not end before the first of these measures
record Fine (ms : List Measure) : Type 0 where
  outside : read (some false) (close none ms) ≡ some false
  inside : (ps : List ℕ) → last_there ms ≡ false → read (some true) (close (some ps) ms) ≡ some false

fine : (ms : List Measure) → All (λ (m : Measure). VoltaOpen m.volta) ms → Fine ms
unfolding close last_there volta_step volta_code
fine [] h = record { outside = refl; inside = λ ps e. absurd (false≢true (sym e)) }
fine (m ∷ ms) h =
    let r = fine ms h.1 in
    record {
      outside =
          by_test (starts m)
          (λ s.
          by_test (ends_at m ms) (λ e. rw (s, e, close) r.outside) (λ e. rw (s, e, close, start_code m s) (r.inside m.passes (followed m ms e))))
          (λ s. rw (s, close, plain_code m h.0 s) r.outside);
      inside =
          λ ps s.
          by_test (ends_at m ms) (λ e. rw (e, close) r.outside)
          (λ e. rw (e, close, plain_code m h.0 s) (r.inside ps (followed m ms e)));
    }

pub closed_fine : (ms : List Measure) → All (λ (m : Measure). VoltaOpen m.volta) ms → read (some false) (closed ms) ≡ some false
unfolding closed
closed_fine ms h = (fine ms h).outside

-- so are those of a finished part
pub voltas_fine : (ms : List Measure) → VoltasClosed ms → read (some false) ms ≡ some false
voltas_fine ms c =
    ap (foldl volta_step (some false)) (sym (map_map (λ (m : Measure). m.volta) volta_code ms)) ∙ ap (λ (vs : List Volta). foldl volta_step (some false) (map volta_code vs)) c.same
    ∙ ap (foldl volta_step (some false)) (map_map (λ (m : Measure). m.volta) volta_code (closed c.before)) ∙ closed_fine c.before c.opens
