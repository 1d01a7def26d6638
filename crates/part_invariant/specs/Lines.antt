-- A PART BETWEEN ITS LINES, represented by scratch and registers; the room for the music that is to come; and what a line or another item does.
use Rattle.std.specs.Prelude.{ℕ, ◌+◌, ◌*◌, ◌^◌, ◌≤◌, ◌<◌, max, List, []}
use Rattle.part_layout.specs.Log.{LogState}
use Rattle.part_layout.specs.Lines.{Between}
use Rattle.part_rows.specs.Table.{Only}
use Rattle.part_rows.specs.Encoded.{note_row_width, pitch_row_width, scope_row_width, scope_index_width}
use Rattle.capacity.specs.Sizes.{bars, letters, tones, signs}
use Rattle.part_registers.specs.declared.Tables.{Tables}
use Rattle.part_registers.specs.declared.Counts.{Counts}
use Rattle.part_registers.specs.declared.Registers.{Registers}
use Rattle.reader.specs.Records.{measure_width}
use Rattle.part_invariant.specs.Invariant.{Represents}

-- a part is represented
pub record RepresentedBetween (t : Tables) (s : List ℕ) (r : Registers) : Type 0 where
  pub state : LogState
  pub between : Between state
  pub represents : Represents t s r [] state

-- there is room in each table for what these bytes of music can make, and for a first measure
pub record RoomForBytes (t : Tables) (c : Counts) (size : ℕ) (bytes : List ℕ) : Type 0 where
  pub for_heads : t.heads + measure_width * (max 1 c.heads + bars bytes) ≤ t.notes
  pub for_notes : t.notes + note_row_width * (c.notes + tones bytes) ≤ t.pitches
  pub for_pitches : t.pitches + pitch_row_width * (c.pitches + letters bytes) ≤ t.scopes
  pub for_scopes : t.scopes + scope_index_width + scope_row_width * (c.scopes + signs bytes) ≤ t.end
  pub ends : t.end ≤ size
  pub small : t.end < 2 ^ 32

-- the tables grow by what these bytes can make at most
pub record GrowsBy (c c' : Counts) (bytes : List ℕ) : Type 0 where
  pub more_heads : max 1 c'.heads ≤ max 1 c.heads + bars bytes
  pub more_notes : c'.notes ≤ c.notes + tones bytes
  pub more_pitches : c'.pitches ≤ c.pitches + letters bytes
  pub more_scopes : c'.scopes ≤ c.scopes + signs bytes

-- A LINE OR ANOTHER ITEM, with these bytes of music: scratch and registers do what f does to every part that they represent between lines
pub record SimulatesItem (t : Tables) (s : List ℕ) (r : Registers) (s' : List ℕ) (r' : Registers) (bytes : List ℕ) (f : LogState → LogState) : Type 0 where
  pub only : Only t.heads t.end s s'
  pub grows : GrowsBy r.counts r'.counts bytes
  pub holds : (l : LogState) → Between l → Represents t s r [] l → Represents t s' r' [] (f l)
