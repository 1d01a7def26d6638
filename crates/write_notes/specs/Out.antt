-- THE MEASURES AND NOTES OF A PART in the order of the reading, as the bytes of its tables in scratch give them.
use Rattle.std.specs.Prelude.{ℕ, zero, suc, ◌+◌, ◌*◌, ◌%◌, Bool, true, cond, ◌&&◌, List, [], ◌∷◌, ◌++◌, eqb, leb}
use Rattle.laws.specs.Bytes.{part, le32}
use Rattle.reader.specs.Codes.{bit}
use Rattle.reader.specs.Records.{measure_width}
use Rattle.part_rows.specs.declared.NoteStart.{NoteStart}
use Rattle.part_rows.specs.Encoded.{note_row_width}
use Rattle.part_rows.specs.Read.{start_at, rest_at, of_voice_at}
use Rattle.part_measures.specs.Heads.{note_count}
use Rattle.write_notes.specs.declared.PartTables.{PartTables}

-- a note is no rest, its value is 5 to 9 and its beam none
unfoldable pub is_lone : NoteStart → Bool
is_lone n = (eqb n.kind 0 && leb 5 n.value && leb n.value 9) && eqb n.beam 0

-- its flags
unfoldable pub flags_for : NoteStart → ℕ
flags_for n = n.flags % 32 + bit (is_lone n) 32

-- the record of the note in the row at p
unfoldable pub note_out : List ℕ → ℕ → List ℕ
note_out s p = let n = start_at s p in (n.kind ∷ n.value ∷ n.dots ∷ flags_for n ∷ []) ++ rest_at s p

-- the records of the k rows from p on, of whatever voices
unfoldable pub records_out : List ℕ → ℕ → ℕ → List ℕ
records_out s p zero = []
records_out s p (suc k) = note_out s p ++ records_out s (p + note_row_width) k

-- the records of voice v among the k rows from p on
unfoldable pub voice_out : List ℕ → ℕ → ℕ → ℕ → List ℕ
voice_out s v p zero = []
voice_out s v p (suc k) = cond (of_voice_at s v p) (note_out s p) [] ++ voice_out s v (p + note_row_width) k

-- those of the j voices from v on
unfoldable pub voices_out : List ℕ → ℕ → ℕ → ℕ → ℕ → List ℕ
voices_out s p k v zero = []
voices_out s p k v (suc j) = voice_out s v p k ++ voices_out s p k (suc v) j

-- the k rows from p on are all of voice 0
unfoldable pub leads : List ℕ → ℕ → ℕ → Bool
leads s p zero = true
leads s p (suc k) = of_voice_at s 0 p && leads s (p + note_row_width) k

-- the records of the notes of the n measures from h on, whose rows begin at p
unfoldable pub notes_out : List ℕ → ℕ → ℕ → ℕ → List ℕ
notes_out s h p zero = []
notes_out s h p (suc n) = voices_out s p (note_count s h) 0 4 ++ notes_out s (h + measure_width) (p + note_row_width * note_count s h) n

-- THE SECTIONS
abbrev pub measures_section : List ℕ → PartTables → List ℕ
measures_section s t = le32 t.measures.count ++ part s t.measures.at (measure_width * t.measures.count)

abbrev pub notes_section : List ℕ → PartTables → List ℕ
notes_section s t = le32 t.notes.count ++ notes_out s t.measures.at t.notes.at t.measures.count
