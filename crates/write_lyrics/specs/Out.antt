-- THE LYRICS OF A PART in the order of the reading, as the bytes of its tables in scratch give them: records, or texts. ws has the syllables of each note that
-- is sung.
use Rattle.std.specs.Prelude.{ℕ, zero, suc, ◌+◌, ◌*◌, ◌/◌, ◌≡◌, Bool, true, cond, List, [], ◌++◌, Option, Some, None, length, get_or}
use Rattle.laws.specs.Bytes.{le32}
use Rattle.reader.specs.Codes.{bit}
use Rattle.reader.specs.Lyrics.{Syllable}
use Rattle.reader.specs.Records.{measure_width, lyric_width}
use Rattle.part_rows.specs.Encoded.{note_row_width}
use Rattle.store_sections.specs.Writes.{WroteIs}
use Rattle.part_rows.specs.Read.{lead_row, sung_row}
use Rattle.part_measures.specs.Heads.{note_count}
use Rattle.write_notes.specs.declared.PartTables.{PartTables}
use Rattle.write_syllables.specs.Pieces.{pieces}
use Rattle.write_lyrics.specs.declared.Passed.{Passed}

-- how many of the k rows from p on are sung
unfoldable pub sung_rows : List ℕ → ℕ → ℕ → ℕ
sung_rows s p zero = 0
sung_rows s p (suc k) = bit (sung_row s p) 1 + sung_rows s (p + note_row_width) k

-- how many of the rows of the n heads from h on, which begin at p
unfoldable pub sung_total : List ℕ → ℕ → ℕ → ℕ → ℕ
sung_total s h p zero = 0
sung_total s h p (suc n) = sung_rows s p (note_count s h) + sung_total s (h + measure_width) (p + note_row_width * note_count s h) n

-- what the k rows from p on give: the next note of voice 0 has index i, the next that is sung is number j
unfoldable pub rows_out : Bool → List (List Syllable) → List ℕ → ℕ → ℕ → ℕ → ℕ → List ℕ
rows_out texts ws s i j p zero = []
rows_out texts ws s i j p (suc k) = cond (sung_row s p) (pieces texts i (get_or ws j [])) [] ++ rows_out texts ws s (i + bit (lead_row s p) 1) (j + bit (sung_row s p) 1) (p + note_row_width) k

-- bs was to be written for rows before which, and among which, j notes are sung
abbrev pub Says : List ℕ → List ℕ → List ℕ → ℕ → Option Passed → Type 0
Says d bs e j (Some x) = WroteIs d bs e (Some x.to) × (x.sung ≡ j)
Says d bs e j None = WroteIs d bs e None

pub record PassedIs (d bs e : List ℕ) (j : ℕ) (r : Option Passed) : Type 0 where
  pub says : Says d bs e j r

-- what the rows of the n heads from h on give, which begin at p
unfoldable pub measures_out : Bool → List (List Syllable) → List ℕ → ℕ → ℕ → ℕ → ℕ → ℕ → List ℕ
measures_out texts ws s i j h p zero = []
measures_out texts ws s i j h p (suc n) =
    rows_out texts ws s i j p (note_count s h) ++ measures_out texts ws s (i + note_count s h) (j + sung_rows s p (note_count s h)) (h + measure_width) (p + note_row_width * note_count s h) n

-- the texts of the k notes that are sung, from number j on
unfoldable pub texts_out : List (List Syllable) → ℕ → ℕ → List ℕ
texts_out ws j zero = []
texts_out ws j (suc k) = pieces true 0 (get_or ws j []) ++ texts_out ws (j + 1) k

-- how many records, or bytes of text, n bytes are
abbrev pub count_of : Bool → ℕ → ℕ
count_of texts n = cond texts n (n / lyric_width)

-- records, or texts, behind their count
unfoldable pub counted : Bool → List ℕ → List ℕ
counted texts bs = le32 (count_of texts (length bs)) ++ bs

-- the section
abbrev pub section_out : Bool → List (List Syllable) → List ℕ → PartTables → List ℕ
section_out texts ws s t = counted texts (measures_out texts ws s 0 0 t.measures.at t.notes.at t.measures.count)
