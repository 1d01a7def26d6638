-- KEYS FROM SEVEN FLATS TO SEVEN SHARPS (document 02, T-03: "21 a key beyond seven sharps or flats"). Fifths have 128 added.
use Rattle.std.specs.Prelude.{◌≤◌}
use Rattle.std.proofs.Math.Option.{Option, none, some}
use Rattle.laws.specs.Lists.{All}
use Rattle.standard.specs.Keys.{Key}
use Rattle.reader.specs.State.{Measure}
use Rattle.reader.specs.Part.{Part}

-- −7 to 7
abbrev pub InSeven : Key → Type 0
InSeven k = (121 ≤ k.fifths) × (k.fifths ≤ 135)

-- of a key mark, if there is one
abbrev pub MarkInSeven : Option Key → Type 0
MarkInSeven none = Unit {0}
MarkInSeven (some k) = InSeven k

-- of every measure of a part
abbrev pub MarksInSeven : Part → Type 0
MarksInSeven p = All (λ (m : Measure). MarkInSeven m.key) p.measures
