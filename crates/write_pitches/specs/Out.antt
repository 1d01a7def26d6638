-- THE PITCHES OF A PART in the order of the reading, as the bytes of its tables in scratch give them.
use Rattle.std.specs.Prelude.{ℕ, zero, suc, ◌+◌, ◌*◌, cond, List, [], ◌++◌}
use Rattle.laws.specs.Bytes.{part, le32}
use Rattle.reader.specs.Records.{measure_width}
use Rattle.part_rows.specs.Encoded.{note_row_width, pitch_row_width}
use Rattle.part_rows.specs.Read.{of_voice_at, pitch_count}
use Rattle.part_measures.specs.Heads.{note_count}
use Rattle.write_notes.specs.declared.PartTables.{PartTables}
use Rattle.write_notes.specs.Tables.{pitch_total}

-- the pitches of voice v among the k rows from p on, whose pitches begin at q
unfoldable pub voice_out : List ℕ → ℕ → ℕ → ℕ → ℕ → List ℕ
voice_out s v p q zero = []
voice_out s v p q (suc k) = cond (of_voice_at s v p) (part s q (pitch_row_width * pitch_count s p)) [] ++ voice_out s v (p + note_row_width) (q + pitch_row_width * pitch_count s p) k

-- those of the j voices from v on
unfoldable pub voices_out : List ℕ → ℕ → ℕ → ℕ → ℕ → ℕ → List ℕ
voices_out s p q k v zero = []
voices_out s p q k v (suc j) = voice_out s v p q k ++ voices_out s p q k (suc v) j

-- the pitches of the notes of the n measures from h on, whose rows begin at p
unfoldable pub pitches_out : List ℕ → ℕ → ℕ → ℕ → ℕ → List ℕ
pitches_out s h p q zero = []
pitches_out s h p q (suc n) =
    voices_out s p q (note_count s h) 0 4 ++ pitches_out s (h + measure_width) (p + note_row_width * note_count s h) (q + pitch_row_width * pitch_total s p (note_count s h)) n

-- THE SECTION
abbrev pub pitches_section : List ℕ → PartTables → List ℕ
pitches_section s t = le32 t.pitches.count ++ pitches_out s t.measures.at t.notes.at t.pitches.at t.measures.count
