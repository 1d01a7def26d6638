-- What the code answers on the way: the sections' tests where their counts are given, and what is found only in some bytes.
use Rattle.std.specs.Prelude.{ℕ, ◌+◌, Bool, cond, ◌&&◌, List, Option, Some, None, leb, eqb, length}
use Rattle.laws.specs.Bytes.{u32_at}
use Rattle.reader.specs.Records.{measure_width, note_width, pitch_width, lyric_width}
use Rattle.reading_records.specs.Fields.{pitches_field, text_field}
use Rattle.reading_sections.specs.Sections.{behind, notes_at, pitches_at, lyrics_at, text_at, part_end, record_at, notes_in}
use Rattle.reading_whole.specs.Whole.{every, total, is_measure, is_note, is_pitch, is_lyric, voltas, is_closed, is_part}
use Rattle.reading_sections.specs.declared.Section.{Section}
use Rattle.reading_whole.specs.declared.Layout.{Layout}

-- THE SECTIONS at `at`, of n records
-- measures with k notes
unfoldable pub measures_fine : List ℕ → ℕ → ℕ → ℕ → Bool
measures_fine s at n k =
    every (λ i. is_measure s (record_at measure_width at i)) n
    && is_closed (voltas s at n)
    && eqb (total (λ i. notes_in s (record_at measure_width at i)) n) k

-- notes with k pitches
unfoldable pub notes_fine : List ℕ → ℕ → ℕ → ℕ → Bool
notes_fine s at n k =
    every (λ i. is_note s (record_at note_width at i)) n
    && eqb (total (λ i. u32_at s (record_at note_width at i + pitches_field)) n) k

unfoldable pub pitches_fine : List ℕ → ℕ → ℕ → Bool
pitches_fine s at n = every (λ i. is_pitch s (record_at pitch_width at i)) n

-- lyrics of m notes, with k bytes of text
unfoldable pub lyrics_fine : List ℕ → ℕ → ℕ → ℕ → ℕ → Bool
lyrics_fine s at n m k =
    every (λ i. is_lyric s m (record_at lyric_width at i)) n
    && eqb (total (λ i. u32_at s (record_at lyric_width at i + text_field)) n) k

-- A SECTION of records of w bytes, if it lies inside the bytes
unfoldable pub section_for : List ℕ → ℕ → ℕ → Option Section
section_for s w at = cond (leb (behind s w at) (length s)) (Some (record { count = u32_at s at; end = behind s w at })) None

-- THE SECTIONS OF A PART, whether they lie inside the bytes or not
unfoldable pub layout_at : List ℕ → ℕ → Layout
layout_at s at = record {
  measures = record { count = u32_at s at; end = notes_at s at };
  notes = record { count = u32_at s (notes_at s at); end = pitches_at s at };
  pitches = record { count = u32_at s (pitches_at s at); end = lyrics_at s at };
  lyrics = record { count = u32_at s (lyrics_at s at); end = text_at s at };
  text = record { count = u32_at s (text_at s at); end = part_end s at };
}

-- if they do
unfoldable pub layout_for : List ℕ → ℕ → Option Layout
layout_for s at = cond (leb (part_end s at) (length s)) (Some (layout_at s at)) None

-- where A PART ends, if it is whole
unfoldable pub part_for : List ℕ → ℕ → Option ℕ
part_for s at = cond (is_part s at) (Some (part_end s at)) None
