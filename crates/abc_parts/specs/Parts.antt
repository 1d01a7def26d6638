-- A PART IN SCRATCH, from its items: when its last item is read and its end is done, and when its lyrics are sung.
use Rattle.std.specs.Prelude.{ℕ, ◌+◌, ◌*◌, ◌^◌, ◌≤◌, ◌<◌, ◌≡◌, List, [], length, replicate}
use Rattle.standard.specs.Keys.{Key}
use Rattle.editions.specs.declared.Edition.{Edition}
use Rattle.reader.specs.State.{Note}
use Rattle.reader.specs.Lyrics.{sung_in}
use Rattle.reader.specs.Steps.{items_of}
use Rattle.part_layout.specs.Log.{Head}
use Rattle.part_layout.specs.Ends.{Laid, build, sung_notes, takers_in}
use Rattle.reader.specs.Records.{measure_width}
use Rattle.part_rows.specs.Encoded.{note_row_width, pitch_row_width}
use Rattle.scan_table.specs.Rows.{items_in}
use Rattle.lyrics.specs.declared.Sheet.{Sheet}
use Rattle.lyrics.specs.Sheet.{lyric_head_width, lyric_stop_width, lyric_row_width, Kept, Outside, syllables_in}
use Rattle.lyrics.specs.Items.{lines_in, rows_of, Fits}
use Rattle.lyric_stops.specs.declared.Stops.{Stops}
use Rattle.lyric_lines.specs.Stands.{stops_of}
use Rattle.part_stops.specs.Stops.{Ready, Holds}
use Rattle.write_notes.specs.declared.PartTables.{PartTables}
use Rattle.write_notes.specs.Tables.{Represents}
use Rattle.part_registers.specs.declared.Tables.{Tables}
use Rattle.abc_parts.specs.declared.Ended.{Ended}

-- the part, as the code lays it out
abbrev pub laid_of : Edition → Key → List ℕ → List ℕ → ℕ → ℕ → Laid
laid_of ed header text s n p = build ed header (items_of p (items_in text s n))

-- the sheet of its lyrics, with c rows, for n notes that are sung to: it stands where the accidentals in force stood, the stops of the notes between heads and log
abbrev pub sheet_at : Tables → ℕ → ℕ → Sheet
sheet_at t n c = record { heads = t.scopes; sounded = n; log = t.scopes + lyric_head_width * n + lyric_stop_width * n; count = c }

-- the stops
abbrev pub stops_at : Tables → ℕ → Stops
stops_at t n = stops_of (sheet_at t n 0)

-- scratch holds these measures and notes
abbrev pub HoldsNotes : List ℕ → PartTables → List Head → List (ℕ × Note) → Type 0
HoldsNotes s d ms log = Holds s d.measures.at d.measures.count d.notes.at ms log

-- the stops have room behind them
abbrev pub StopsReady : List ℕ → PartTables → Stops → Type 0
StopsReady s d t = Ready s d.measures.at d.measures.count d.notes.at t

-- THE PART IS READ AND ENDED: s' holds its measures, notes and pitches, and its lyric lines with their verses and first notes; the sheet has room
pub record PartRead (ed : Edition) (text s : List ℕ) (n p : ℕ) (header : Key) (t : Tables) (s' : List ℕ) (d : Ended) : Type 0 where
  pub music : Represents s' d.tables (laid_of ed header text s n p).heads (laid_of ed header text s n p).log
  pub words : (laid_of ed header text s n p).words ≡ sung_in ed (takers_in 0 (laid_of ed header text s n p).heads (laid_of ed header text s n p).log) (lines_in text s' p n) (replicate d.sounded [])
  pub sung_notes_lem : sung_notes (laid_of ed header text s n p).log ≡ d.sounded
  pub for_measures : d.tables.measures.at + measure_width * d.tables.measures.count ≤ d.tables.notes.at
  pub for_notes : d.tables.notes.at + note_row_width * d.tables.notes.count ≤ d.tables.pitches.at
  pub for_pitches : d.tables.pitches.at + pitch_row_width * d.tables.pitches.count ≤ t.scopes
  pub small : t.scopes < 2 ^ 32
  pub sheet : Fits text s' n p (sheet_at t d.sounded 0)
  pub same_items : items_in text s' n ≡ items_in text s n
  pub same_length : length s' ≡ length s

-- ITS LYRICS ARE SUNG, in c rows
pub record PartSung (ed : Edition) (text s s' : List ℕ) (n p : ℕ) (t : Tables) (d : Ended) (c : ℕ) : Type 0 where
  pub kept : Kept s' (sheet_at t d.sounded c)
  pub sung : (ms : List Head) (log : List (ℕ × Note)) → HoldsNotes s d.tables ms log
      → syllables_in text s' (sheet_at t d.sounded c) ≡ sung_in ed (takers_in 0 ms log) (lines_in text s p n) (replicate d.sounded [])
  pub room : c ≤ rows_of (lines_in text s p n)
  pub outside : Outside s s' t.scopes ((sheet_at t d.sounded c).log + lyric_row_width * c)
