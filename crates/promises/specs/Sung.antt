-- WHERE LYRIC RECORDS STAND (document 01, "The reading": "lyrics by note, then verse"; "Lyrics go to voice 0 notes that are no rests"; document 02, T-03: "grace notes take no
-- syllable").
use Rattle.std.specs.Prelude.{ℕ, ◌<◌, ◌≡◌, ◌⊎◌, Bool, true, not, ◌&&◌, List, [], ◌∷◌}
use Rattle.std.proofs.Math.Option.{some}
use Rattle.std.proofs.Math.ListN.{get_elem?}
use Rattle.laws.specs.Lists.{All}
use Rattle.editions.specs.declared.Edition.{Edition}
use Rattle.editions.specs.declared.Edition.TheVariants.{First, Second}
use Rattle.reader.specs.State.{Note}
use Rattle.reader.specs.Lyrics.{Syllable}
use Rattle.reader.specs.Part.{Part}
use Rattle.reader.specs.Records.{is_sung, notes_of, lyrics}

-- a note that takes a syllable: of voice 0 and no rest, in the second edition no grace note either
abbrev pub takes : Edition → ℕ × Note → Bool
takes First x = is_sung x
takes Second x = is_sung x && not x.1.flags.grace

-- the record's note is in the part, and one that takes a syllable
abbrev pub OnSungNote : Edition → Part → ℕ × Syllable → Type 0
OnSungNote ed p r = (x : ℕ × Note) × ((get_elem? (notes_of p) r.0 ≡ some x) × (takes ed x ≡ true))

-- a record before another: of an earlier note, or of the same note and an earlier verse
abbrev pub Before : ℕ × Syllable → ℕ × Syllable → Type 0
Before a b = (a.0 < b.0) ⊎ ((a.0 ≡ b.0) × (a.1.verse < b.1.verse))

-- each record before all behind it: so no two have the same note and verse
abbrev pub InTurn : List (ℕ × Syllable) → Type 0
InTurn [] = Unit {0}
InTurn (r ∷ rs) = All (Before r) rs × InTurn rs

-- of a part
abbrev pub WellSung : Edition → Part → Type 0
WellSung ed p = All (OnSungNote ed p) (lyrics p) × InTurn (lyrics p)
