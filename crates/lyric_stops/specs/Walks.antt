-- WHERE A WALK ALONG THE STOPS ENDS.
use Rattle.std.specs.Prelude.{ℕ, ◌+◌, ◌≤◌, ◌<◌, ◌≡◌, List, length}
use Rattle.lyric_stops.specs.declared.Kind.{Kind}
use Rattle.lyric_stops.specs.declared.Stop.{Stop}
use Rattle.lyric_stops.specs.Stops.{farthest, kind_at, back_of, Hints}

-- at the first note from `from` on that takes a syllable, or behind the last note: not beyond what bounds `from` and the farthest step from a note
pub record TakerFrom (xs : List Stop) (from r : ℕ) : Type 0 where
  pub low : from ≤ r
  pub here : kind_at xs r ≡ Kind.Passed → ⊥
  pub passed : Hints xs → (k : ℕ) → from ≤ k → k < r → kind_at xs k ≡ Kind.Passed
  pub near : (b : ℕ) → from ≤ b → length xs + farthest ≤ b → r ≤ b

-- at the first one that is the first of its measure, or behind the last note
pub record FirstFrom (xs : List Stop) (from r : ℕ) : Type 0 where
  pub low : from ≤ r
  pub here : kind_at xs r ≡ Kind.First
  pub passed : Hints xs → (k : ℕ) → from ≤ k → k < r → kind_at xs k ≡ Kind.First → ⊥

-- at the note before h that takes a syllable, where h is the first of its measure
abbrev pub BackFrom : List Stop → ℕ → ℕ → Type 0
BackFrom xs h r = Hints xs → kind_at xs h ≡ Kind.First → r ≡ back_of xs h
