-- WHAT IS PLAYED, BY EXAMPLE (T-02): small tunes with the measures that their first part plays, in one table, each from its text.
use Prim.Native.Nat.{ℕ}
use Prim.Native.String.{String}
use mathlib.Core.Path.{◌≡◌, refl}
use mathlib.Core.Option.{some}
use mathlib.Core.List.{List, [], ◌∷◌, map}
use Rattle.reading_examples.specs.Opened.{opened}
use Rattle.reading_examples.specs.Readings.{plays}

pub record Tune : Type 0 where
  pub text : String
  pub played : List ℕ

abbrev pub tunes : List Tune
tunes =
    -- a repeat is played twice; after its last pass the next measure is the section start
    record { text = "K:C\nA|B:|c|\n"; played = 1 ∷ 2 ∷ 1 ∷ 2 ∷ 3 ∷ [] }
    ∷ record { text = "K:C\n A:|B:|\n"; played = 1 ∷ 1 ∷ 2 ∷ 2 ∷ [] }
    ∷ record { text = "K:C\n|:A::B:|\n"; played = 1 ∷ 1 ∷ 2 ∷ 2 ∷ [] }
    -- going back to a left barline 1 does not make the pass 1 again
    ∷ record { text = "K:C\nA|:B:|c|\n"; played = 1 ∷ 2 ∷ 2 ∷ 3 ∷ [] }
    -- endings
    ∷ record { text = "K:C\n|:A|[1B:|[2c|]\n"; played = 1 ∷ 2 ∷ 1 ∷ 3 ∷ [] }
    ∷ record { text = "K:C\n|:A|[1B:|[2c:|d|]\n"; played = 1 ∷ 2 ∷ 1 ∷ 3 ∷ 4 ∷ [] }
    ∷ record { text = "K:C\n|:A|[1,3B:|[2,4c:|[5d|]\n"; played = 1 ∷ 2 ∷ 1 ∷ 3 ∷ 1 ∷ 2 ∷ 1 ∷ 3 ∷ 1 ∷ 4 ∷ [] }
    -- a span without pass 1, to the part's end
    ∷ record { text = "K:C\n[2A|B\n"; played = [] }
    -- tested with the pass that the player comes with, and not again with pass 1 where the measure starts a section
    ∷ record { text = "K:C\nA|[1B:|[2|:c|]\n"; played = 1 ∷ 2 ∷ 1 ∷ 3 ∷ [] }
    ∷ record { text = "K:C\n|:A|[1 B:|[2 |: c :|\n"; played = 1 ∷ 2 ∷ 1 ∷ 3 ∷ 3 ∷ [] }
    -- a measure that is skipped starts no section
    ∷ record { text = "K:C\nA|[2|:B|]c:|\n"; played = 1 ∷ 3 ∷ 1 ∷ 2 ∷ 3 ∷ 2 ∷ 3 ∷ [] }
    -- off it the player goes forward
    ∷ record { text = "K:C\nA|[2B|]|:c:|\n"; played = 1 ∷ 3 ∷ 3 ∷ [] }
    -- after the last pass the next measure is the section start at once, and tested with pass 1
    ∷ record { text = "K:C\n A:|[2B|]\n"; played = 1 ∷ 1 ∷ [] }
    -- a section start that is skipped stays the section start
    ∷ record { text = "K:C\n[1A:|[2B|]\n"; played = 1 ∷ 2 ∷ [] }
    ∷ record { text = "K:C\nA|[1|:B:|[2c|]\n"; played = 1 ∷ 2 ∷ 3 ∷ [] }
    -- the limit: an ending behind the repeat counts, up to just before the next left barline 1 or 3, played or not
    ∷ record { text = "K:C\nA|B:|[3c|]\n"; played = 1 ∷ 2 ∷ 1 ∷ 2 ∷ 1 ∷ 2 ∷ [] }
    ∷ record { text = "K:C\nA|B:|[3|:c|]\n"; played = 1 ∷ 2 ∷ 1 ∷ 2 ∷ [] }
    ∷ record { text = "K:C\n|:A|[3B:|c:|[1d|]\n"; played = 1 ∷ 3 ∷ 1 ∷ 3 ∷ 1 ∷ 2 ∷ 3 ∷ 3 ∷ 4 ∷ [] }
    -- a measure may be played in several sections
    ∷ record { text = "K:C\nA|[2B:|c:|\n"; played = 1 ∷ 3 ∷ 1 ∷ 2 ∷ 3 ∷ 3 ∷ [] }
    ∷ record { text = "K:C\nA|[1B|:c:|[2d|]\n"; played = 1 ∷ 2 ∷ 3 ∷ 4 ∷ [] } ∷ []

-- each is read, and plays as it says
pub table : map (λ (t : Tune). plays 1 t.text) tunes ≡ map (λ (t : Tune). some t.played) tunes
unfolding opened
table = refl

-- a part with no measure plays nothing; the other one of its text
pub no_measure : plays 1 "V:1\nV:2\nK:C\nV:2\nA\n" ≡ some []
unfolding opened
no_measure = refl

pub the_other : plays 2 "V:1\nV:2\nK:C\nV:2\nA\n" ≡ some (1 ∷ [])
unfolding opened
the_other = refl
