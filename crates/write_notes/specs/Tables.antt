-- A PART'S TABLES IN SCRATCH, as the writers find them: within the store, and what they represent.
use Rattle.std.specs.Prelude.{ℕ, zero, suc, ◌+◌, ◌*◌, ◌^◌, ◌≤◌, ◌<◌, ◌≡◌, List, map, length}
use Rattle.laws.specs.Lists.{concat}
use Rattle.standard.specs.Pitches.{Pitch}
use Rattle.reader.specs.State.{Note}
use Rattle.reader.specs.Records.{measure_width, pitch_bytes}
use Rattle.part_layout.specs.Log.{Head}
use Rattle.part_layout.specs.Lines.{Fits}
use Rattle.part_rows.specs.Table.{Table}
use Rattle.part_rows.specs.Encoded.{note_row_width, pitch_row_width, note_row}
use Rattle.part_rows.specs.Read.{pitch_count}
use Rattle.part_measures.specs.Heads.{head_row, total}
use Rattle.write_notes.specs.declared.PartTables.{PartTables}

-- how many pitches the k notes from p on have
unfoldable pub pitch_total : List ℕ → ℕ → ℕ → ℕ
pitch_total s p zero = 0
pitch_total s p (suc k) = pitch_count s p + pitch_total s (p + note_row_width) k

-- the tables lie within the store; the measures count all the notes, and these all the pitches; four bytes hold each count
pub record InStore (s : List ℕ) (t : PartTables) : Type 0 where
  pub measures_in : t.measures.at + measure_width * t.measures.count ≤ length s
  pub notes_in_lem : t.notes.at + note_row_width * total s t.measures.at t.measures.count ≤ length s
  pub pitches_in_lem : t.pitches.at + pitch_row_width * pitch_total s t.notes.at (total s t.measures.at t.measures.count) ≤ length s
  pub all_notes_lem : total s t.measures.at t.measures.count ≡ t.notes.count
  pub all_pitches : pitch_total s t.notes.at (total s t.measures.at t.measures.count) ≡ t.pitches.count
  pub few_measures : t.measures.count < 2 ^ 32
  pub few_notes : t.notes.count < 2 ^ 32
  pub few_pitches : t.pitches.count < 2 ^ 32

-- all pitches of notes, in their order
abbrev pub pitches_of : List (ℕ × Note) → List Pitch
pitches_of log = concat (map (λ (x : ℕ × Note). x.1.pitches) log)

-- the tables represent the measures ms, the log of their notes, and the notes' pitches
pub record Represents (s : List ℕ) (t : PartTables) (ms : List Head) (log : List (ℕ × Note)) : Type 0 where
  pub measures_table : Table head_row measure_width s t.measures.at ms
  pub measures_are : length ms ≡ t.measures.count
  pub notes_table : Table note_row note_row_width s t.notes.at log
  pub notes_are : length log ≡ t.notes.count
  pub pitches_table : Table pitch_bytes pitch_row_width s t.pitches.at (pitches_of log)
  pub pitches_are : length (pitches_of log) ≡ t.pitches.count
  pub few_notes : t.notes.count < 2 ^ 32
  pub few_pitches : t.pitches.count < 2 ^ 32
  pub fits : Fits ms log
