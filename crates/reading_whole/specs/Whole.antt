-- A WHOLE READING (document 02, T-02): "section counts that match its length, voice counts, pitch counts and text lengths that add up, the codes .. in their ranges, anything in
-- fields not named here, lyric indices inside their part, zeros after it, and for each volta 1 a 2 before the next 1 or 3, with no other 2". Of the bytes s of a store, to its end.
-- Where sections and records stand is reading_sections' Sections; the codes of one record, and how one volta follows another, are reading_fields' Codes.
use Rattle.std.specs.Prelude.{ℕ, zero, suc, ◌+◌, Bool, true, false, ◌&&◌, List, [], ◌∷◌, leb, eqb, length, drop}
use Rattle.std.proofs.Math.Option.{Option, some}
use Rattle.laws.specs.Bytes.{u32_at}
use Rattle.reader.specs.Records.{measure_width, note_width, pitch_width, lyric_width}
use Rattle.reading_records.specs.Widths.{first_part}
use Rattle.reading_records.specs.Fields.{pitches_field, text_field}
use Rattle.reading_sections.specs.Sections.{notes_at, pitches_at, lyrics_at, text_at, part_end, record_at, volta_of, notes_in}
unfoldable pub use Rattle.reading_fields.specs.Codes.{is_measure, is_note, is_pitch, is_lyric, volta_step, is_closed}

-- f holds of each number below n
unfoldable pub every : (ℕ → Bool) → ℕ → Bool
every f zero = true
every f (suc n) = every f n && f n

-- the sum of f over the numbers below n
unfoldable pub total : (ℕ → ℕ) → ℕ → ℕ
total f zero = 0
total f (suc n) = total f n + f n

-- nothing but zeros
unfoldable pub is_zeros : List ℕ → Bool
is_zeros [] = true
is_zeros (c ∷ s) = eqb c 0 && is_zeros s

-- THE VOLTAS of the first n measures, one after the other, of the part at `at`: whether a span is open behind them, or that one of them is wrong there
unfoldable pub voltas : List ℕ → ℕ → ℕ → Option Bool
voltas s at zero = some false
voltas s at (suc n) = volta_step (voltas s at n) (volta_of s (record_at measure_width at n))

-- THE SECTIONS of the part at `at`
-- its measures: their codes, their voltas, and voice counts that add up to the count of notes
unfoldable pub are_measures : List ℕ → ℕ → Bool
are_measures s at =
    every (λ i. is_measure s (record_at measure_width at i)) (u32_at s at)
    && is_closed (voltas s at (u32_at s at))
    && eqb (total (λ i. notes_in s (record_at measure_width at i)) (u32_at s at)) (u32_at s (notes_at s at))

-- its notes: their codes, and pitch counts that add up to the count of pitches
unfoldable pub are_notes : List ℕ → ℕ → Bool
are_notes s at =
    let n = notes_at s at in
    every (λ i. is_note s (record_at note_width n i)) (u32_at s n)
    && eqb (total (λ i. u32_at s (record_at note_width n i + pitches_field)) (u32_at s n)) (u32_at s (pitches_at s at))

-- its pitches: their codes
unfoldable pub are_pitches : List ℕ → ℕ → Bool
are_pitches s at = every (λ i. is_pitch s (record_at pitch_width (pitches_at s at) i)) (u32_at s (pitches_at s at))

-- its lyrics: their codes and their notes, and text lengths that add up to the count of bytes of text
unfoldable pub are_lyrics : List ℕ → ℕ → Bool
are_lyrics s at =
    let l = lyrics_at s at in
    every (λ i. is_lyric s (u32_at s (notes_at s at)) (record_at lyric_width l i)) (u32_at s l)
    && eqb (total (λ i. u32_at s (record_at lyric_width l i + text_field)) (u32_at s l)) (u32_at s (text_at s at))

-- A PART: its five sections lie inside the bytes, and the records of each are as above
unfoldable pub is_part : List ℕ → ℕ → Bool
is_part s at = leb (part_end s at) (length s) && are_measures s at && are_notes s at && are_pitches s at && are_lyrics s at

-- n parts from `at` on, and zeros behind them
unfoldable pub whole_from : List ℕ → ℕ → ℕ → Bool
whole_from s at zero = is_zeros (drop at s)
whole_from s at (suc n) = is_part s at && whole_from s (part_end s at) n

-- A WHOLE READING: room for what stands before the first part, and as many parts as are counted there
unfoldable pub is_whole : List ℕ → Bool
is_whole s = leb first_part (length s) && whole_from s first_part (u32_at s 0)
