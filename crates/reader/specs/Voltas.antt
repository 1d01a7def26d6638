-- CLOSING THE VOLTAS (000, close_abc_volta_spans): "each start's span closes at its first measure with right barline 2, 3 or 5 before the next
-- start, else at the last there; the end carries the start's passes; one measure alone is 3; all others are left." (ABC 2.1, 4.9)
use Rattle.std.specs.Prelude.{ℕ, Bool, true, false, ◌||◌, List, [], ◌∷◌}
use Rattle.std.proofs.Math.Option.{Option, none, some}
use Rattle.standard.specs.Bars.{Barline, normal, repeat_start, repeat_end, repeat_both, double, final}
use Rattle.reader.specs.State.{Measure, Volta, no_volta, volta_begins, volta_ends, volta_alone, with_volta}

-- "right barline 2, 3 or 5": as `closes_ending` of the standard, but for `||`
unfoldable pub ends_ending : Barline → Bool
ends_ending normal = false
ends_ending repeat_start = false
ends_ending repeat_end = true
ends_ending repeat_both = true
ends_ending double = false
ends_ending final = true

unfoldable pub is_start : Volta → Bool
is_start no_volta = false
is_start volta_begins = true
is_start volta_ends = false
is_start volta_alone = false

-- a volta starts at m
unfoldable pub starts : Measure → Bool
starts m = is_start m.volta

-- no measure follows, or one that starts
unfoldable pub last_there : List Measure → Bool
last_there [] = true
last_there (m ∷ ms) = starts m

-- the span ends at m, which ms follow
unfoldable pub ends_at : Measure → List Measure → Bool
ends_at m ms = ends_ending m.right || last_there ms

-- the measures in order; `span`: the passes of a span that is open
unfoldable pub close : Option (List ℕ) → List Measure → List Measure
close span [] = []
close none (m ∷ ms) =
    elim (starts m) [
      | true ↦ elim (ends_at m ms) [ true ↦ with_volta volta_alone m.passes m ∷ close none ms | false ↦ m ∷ close (some m.passes) ms ]
      | false ↦ m ∷ close none ms
    ]
close (some ps) (m ∷ ms) = elim (ends_at m ms) [ true ↦ with_volta volta_ends ps m ∷ close none ms | false ↦ m ∷ close (some ps) ms ]

-- all voltas closed
unfoldable pub closed : List Measure → List Measure
closed ms = close none ms
