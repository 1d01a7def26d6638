-- WHERE THINGS STAND IN A READING'S BYTES (document 01, "The reading"): section after section by their counts. Bytes beyond the end read 0.
use Rattle.std.specs.Prelude.{ℕ, zero, suc, ◌+◌, ◌*◌, ◌≤◌, List, length, get_or}
use Rattle.laws.specs.Bytes.{u32_at}
use Rattle.reading_records.specs.Widths.{count_width}
use Rattle.reading_records.specs.Fields.{left_field, right_field, key_mark_field, volta_field, passes_field}
use Rattle.reader.specs.Records.{measure_width, note_width, pitch_width, lyric_width}

-- where a section of records of w bytes ends that begins at `at`
unfoldable pub behind : List ℕ → ℕ → ℕ → ℕ
behind s w at = at + count_width + w * u32_at s at

-- THE SECTIONS OF A PART that begins at `at`
abbrev pub notes_at : List ℕ → ℕ → ℕ
notes_at s at = behind s measure_width at

abbrev pub pitches_at : List ℕ → ℕ → ℕ
pitches_at s at = behind s note_width (notes_at s at)

abbrev pub lyrics_at : List ℕ → ℕ → ℕ
lyrics_at s at = behind s pitch_width (pitches_at s at)

abbrev pub text_at : List ℕ → ℕ → ℕ
text_at s at = behind s lyric_width (lyrics_at s at)

-- and where the part ends
unfoldable pub part_end : List ℕ → ℕ → ℕ
part_end s at = behind s 1 (text_at s at)

-- n parts from `at` on lie within the bytes
unfoldable pub PartsWithin : List ℕ → ℕ → ℕ → Type 0
PartsWithin s at zero = at ≤ length s
PartsWithin s at (suc n) = (part_end s at ≤ length s) × PartsWithin s (part_end s at) n

-- where part q begins, from 0, of parts from `at` on
unfoldable pub part_at : List ℕ → ℕ → ℕ → ℕ
part_at s at zero = at
part_at s at (suc q) = part_at s (part_end s at) q

-- RECORDS: where record i, of w bytes, of the section at `at` stands
abbrev pub record_at : ℕ → ℕ → ℕ → ℕ
record_at w at i = at + count_width + w * i

-- the byte k of the record at r
abbrev pub byte_at : List ℕ → ℕ → ℕ → ℕ
byte_at s r k = get_or s (r + k) 0

-- of the measure at r: its barlines, key mark, volta, passes
abbrev pub left_of : List ℕ → ℕ → ℕ
left_of s r = byte_at s r left_field

abbrev pub right_of : List ℕ → ℕ → ℕ
right_of s r = byte_at s r right_field

abbrev pub key_mark_of : List ℕ → ℕ → ℕ
key_mark_of s r = byte_at s r key_mark_field

abbrev pub volta_of : List ℕ → ℕ → ℕ
volta_of s r = byte_at s r volta_field

abbrev pub passes_of : List ℕ → ℕ → ℕ
passes_of s r = u32_at s (r + passes_field)

-- the notes of its four voices
unfoldable pub notes_in : List ℕ → ℕ → ℕ
notes_in s r = u32_at s r + u32_at s (r + 4) + u32_at s (r + 8) + u32_at s (r + 12)
