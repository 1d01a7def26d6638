-- SCRATCH AND REGISTERS REPRESENT A PART: what it means that they are a LogState, and what a step does to them.
use Rattle.std.specs.Prelude.{ℕ, ◌+◌, ◌*◌, ◌^◌, ◌≤◌, ◌<◌, ◌≡◌, List, [], ◌++◌, map, length}
use Rattle.laws.specs.Lists.{concat}
use Rattle.standard.specs.Pitches.{Pitch}
use Rattle.reader.specs.State.{Note}
use Rattle.reader.specs.Records.{pitch_bytes, measure_width}
use Rattle.part_layout.specs.Log.{Head, LogState, append}
use Rattle.part_layout.specs.Lines.{Standing}
use Rattle.part_rows.specs.Table.{Table, Only}
use Rattle.part_rows.specs.Encoded.{note_row, row_for, note_row_width, pitch_row_width, scope_row_width, scope_index_width}
use Rattle.part_rows.specs.declared.NoteRow.{NoteRow}
use Rattle.part_measures.specs.Heads.{head_row}
use Rattle.part_scopes.specs.Scopes.{Scoped}
use Rattle.part_registers.specs.declared.Tables.{Tables}
use Rattle.part_registers.specs.declared.Counts.{Counts}
use Rattle.part_registers.specs.declared.Registers.{Registers}
use Rattle.part_registers.specs.States.{pending_for, half_for, running_for, line_for, key_in}

-- the tables stand one behind the other, with room for so many rows more in each
pub record Room (t : Tables) (c : Counts) (size heads notes pitches scopes : ℕ) : Type 0 where
  pub for_heads : t.heads + measure_width * (c.heads + heads) ≤ t.notes
  pub for_notes : t.notes + note_row_width * (c.notes + notes) ≤ t.pitches
  pub for_pitches : t.pitches + pitch_row_width * (c.pitches + pitches) ≤ t.scopes
  pub for_scopes : t.scopes + scope_index_width + scope_row_width * (c.scopes + scopes) ≤ t.end
  pub ends : t.end ≤ size
  pub small : t.end < 2 ^ 32

-- heads, notes and pitches
pub record Stored (t : Tables) (c : Counts) (s : List ℕ) (heads : List Head) (log : List (ℕ × Note)) (pitches : List Pitch) : Type 0 where
  pub heads_table : Table head_row measure_width s t.heads heads
  pub notes_table : Table note_row note_row_width s t.notes log
  pub pitches_table : Table pitch_bytes pitch_row_width s t.pitches pitches
  pub heads_are : c.heads ≡ length heads
  pub notes_are : c.notes ≡ length log
  pub pitches_are : c.pitches ≡ length pitches

-- the pitches of all notes
abbrev pub pitches_in : List (ℕ × Note) → List Pitch
pitches_in log = concat (map (λ (x : ℕ × Note). x.1.pitches) log)

-- A PART IS REPRESENTED; `extra` are pitches whose note is not there yet
pub record Represents (t : Tables) (s : List ℕ) (r : Registers) (extra : List Pitch) (l : LogState) : Type 0 where
  pub stored : Stored t r.counts s l.heads l.log (pitches_in l.log ++ extra)
  pub scoped : Scoped s t.scopes r.counts.scopes r.key.scopes l.scopes
  pub key_is : key_in r.key ≡ l.key
  pub last_is : r.last ≡ l.last
  pub pending_is : r.pending ≡ pending_for l.pending
  pub line_is : r.line ≡ line_for l.line
  pub half_is : r.half ≡ half_for l.line.half
  pub running_is : r.tuplet ≡ running_for l.line.tuplet
  pub sounded_is : r.verses.sounded ≡ l.verses.sounded
  pub sounded_most : r.verses.sounded ≤ r.counts.notes
  pub start_is : r.verses.start ≡ l.verses.start
  pub verse_is : r.verses.verse ≡ l.verses.verse

-- a part is represented, while a line is read
pub record RepresentedInLine (t : Tables) (s : List ℕ) (r : Registers) : Type 0 where
  pub state : LogState
  pub standing : Standing state
  pub represents : Represents t s r [] state

-- so, and a note's pitches are there already
pub record Appendable (t : Tables) (s : List ℕ) (r : Registers) (n : NoteRow) : Type 0 where
  pub state : LogState
  pub note : Note
  pub standing : Standing state
  pub row_is : n ≡ row_for note
  pub represents : Represents t s r note.pitches state

-- the tables grow by so many rows at most
pub record Grows (c c' : Counts) (heads notes pitches scopes : ℕ) : Type 0 where
  pub more_heads : c'.heads ≤ c.heads + heads
  pub more_notes : c'.notes ≤ c.notes + notes
  pub more_pitches : c'.pitches ≤ c.pitches + pitches
  pub more_scopes : c'.scopes ≤ c.scopes + scopes

-- A NOTE APPENDED: of every part that is represented, with the note's pitches already there
pub record Appends (t : Tables) (s : List ℕ) (r : Registers) (s' : List ℕ) (r' : Registers) (n : NoteRow) : Type 0 where
  pub only : Only t.heads t.end s s'
  pub grows : Grows r.counts r'.counts 0 1 0 0
  pub holds : (l : LogState) (m : Note) → Standing l → n ≡ row_for m → Represents t s r m.pitches l → Represents t s' r' [] (append m l)

-- A STEP: scratch and registers do what f does to every part that they represent, and nothing outside the tables changes
pub record Simulates (t : Tables) (s : List ℕ) (r : Registers) (s' : List ℕ) (r' : Registers) (heads notes pitches scopes : ℕ) (f : LogState → LogState) : Type 0 where
  pub only : Only t.heads t.end s s'
  pub grows : Grows r.counts r'.counts heads notes pitches scopes
  pub holds : (l : LogState) → Standing l → Represents t s r [] l → Represents t s' r' [] (f l)
