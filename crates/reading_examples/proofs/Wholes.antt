-- WHOLE READINGS AND OTHERS, BY EXAMPLE (T-02): the reading of one small tune, and what a byte changed makes of it.
use Prim.Native.Nat.{ℕ, suc, ◌+◌, ◌-◌, ◌*◌}
use mathlib.Core.Path.{◌≡◌, refl}
use mathlib.Core.Bool.{Bool, true, false}
use mathlib.Core.List.{List, [], ◌∷◌, ◌++◌, map}
use lib.Dec.{lit≤}
use lib.ListN.{take}
use Rattle.laws.specs.Bytes.{le32, zeros, splice}
use Rattle.reader.specs.Records.{measure_width, note_width, pitch_width, lyric_width}
use Rattle.reading_records.specs.Widths.{count_width, first_part}
use Rattle.reading_records.specs.Fields.{left_field, right_field, key_mark_field, passes_field, kind_field, value_field, dots_field, flags_field, beam_field, boundary_field, pitches_field, step_field, verse_field, syllabic_field, extend_field, text_field}
use Rattle.reading_sections.specs.Sections.{notes_at, pitches_at, lyrics_at, text_at, part_end, record_at}
use Rattle.reading_whole.specs.Whole.{is_whole}
use Rattle.reading_whole.proofs.Parts.{first_broken}
use Rattle.reading_examples.specs.Opened.{opened}
use Rattle.reading_examples.specs.Readings.{store_of, Codes, from_codes}

-- THE TUNE: two measures of three notes, two of them sung alike; its store with zeros behind the reading
abbrev pub sung : List ℕ
sung = (store_of "K:C\nAB|c|\nw:la la\n").reading

-- where its first measure, note, pitch and lyric stand
abbrev pub measure_at : ℕ
measure_at = record_at measure_width first_part 0

abbrev pub note_at_lem : ℕ
note_at_lem = record_at note_width (notes_at sung first_part) 0

abbrev pub pitch_at : ℕ
pitch_at = record_at pitch_width (pitches_at sung first_part) 0

abbrev pub lyric_at : ℕ
lyric_at = record_at lyric_width (lyrics_at sung first_part) 0

-- a byte of it changed
abbrev pub changed : ℕ → ℕ → List ℕ
changed at x = splice sung at (x ∷ [])

-- CODES AT THE END OF THEIR RANGES
pub record Range : Type 0 where
  pub place : ℕ
  pub last : ℕ

abbrev pub ranges : List Range
ranges =
    record { place = measure_at + left_field; last = 5 }
    ∷ record { place = measure_at + right_field; last = 5 }
    ∷ record { place = measure_at + key_mark_field; last = 2 }
    ∷ record { place = note_at_lem + kind_field; last = 4 }
    ∷ record { place = note_at_lem + value_field; last = 10 }
    ∷ record { place = note_at_lem + dots_field; last = 3 }
    ∷ record { place = note_at_lem + flags_field; last = 63 }
    ∷ record { place = note_at_lem + beam_field; last = 3 }
    ∷ record { place = note_at_lem + boundary_field; last = 3 }
    ∷ record { place = pitch_at + step_field; last = 6 }
    ∷ record { place = lyric_at; last = 2 }
    ∷ record { place = lyric_at + verse_field; last = 32 }
    ∷ record { place = lyric_at + syllabic_field; last = 3 }
    ∷ record { place = lyric_at + extend_field; last = 1 } ∷ []

-- the last is in it
pub inside : map (λ (r : Range). is_whole (changed r.place r.last)) ranges ≡ map (λ (r : Range). true) ranges
unfolding opened
inside = refl

-- and the next is not
pub outside : map (λ (r : Range). is_whole (changed r.place (suc r.last))) ranges ≡ map (λ (r : Range). false) ranges
unfolding opened
outside = refl

-- ANYTHING IN OTHER FIELDS: meter, fifths, first pass, passes; tuplet numbers; octave, alter, cents; texts
abbrev pub free : List ℕ
free =
    (measure_at + 18)
    ∷ (measure_at + 19)
    ∷ (measure_at + 21)
    ∷ (measure_at + 23)
    ∷ (measure_at + passes_field)
    ∷ (note_at_lem + 5)
    ∷ (note_at_lem + 6)
    ∷ (pitch_at + 1)
    ∷ (pitch_at + 2)
    ∷ (pitch_at + 3)
    ∷ (text_at sung first_part + count_width) ∷ []

pub anything : map (λ at. is_whole (changed at 255)) free ≡ map (λ at. true) free
unfolding opened
anything = refl

-- COUNTS THAT DO NOT ADD UP: the notes of a voice, the pitches of a note, the bytes of a text
abbrev pub counts : List ℕ
counts = measure_at ∷ (note_at_lem + pitches_field) ∷ (lyric_at + text_field) ∷ []

pub add_up : map (λ at. is_whole (changed at 3)) counts ≡ map (λ at. false) counts
unfolding opened
add_up = refl

-- OTHER READINGS
pub record Case : Type 0 where
  pub bytes : List ℕ
  pub whole : Bool

-- a measure with a volta
abbrev volta : ℕ → Codes
volta v = record { left = 0; right = 0; volta = v; passes = 1 }

abbrev pub cases : List Case
cases =
    -- no parts: a count alone, and what a refusal leaves in a store; fewer bytes are none
    record { bytes = zeros first_part; whole = true }
    ∷ record { bytes = zeros 400; whole = true }
    ∷ record { bytes = zeros (first_part - 1); whole = false }
    ∷ record { bytes = []; whole = false }
    -- the tune's store, and its reading alone; one byte less
    ∷ record { bytes = sung; whole = true }
    ∷ record { bytes = take (part_end sung first_part) sung; whole = true }
    ∷ record { bytes = take (part_end sung first_part - 1) sung; whole = false }
    -- something behind it
    ∷ record { bytes = changed 399 1; whole = false }
    ∷ record { bytes = changed (part_end sung first_part) 1; whole = false }
    -- verse 0
    ∷ record { bytes = changed (lyric_at + verse_field) 0; whole = false }
    -- value 10, a whole bar's, with kind 0; a lyric on a rest; two equal lyrics
    ∷ record { bytes = changed (note_at_lem + value_field) 10; whole = true }
    ∷ record { bytes = changed (note_at_lem + kind_field) 1; whole = true }
    ∷ record { bytes = changed (lyric_at + lyric_width) 0; whole = true }
    -- voltas: a 1 and its 2, one measure alone; a 2 without its 1, a 1 without its 2, a 3 or a 1 before the 2
    ∷ record { bytes = from_codes (volta 1 ∷ volta 0 ∷ volta 2 ∷ volta 3 ∷ []); whole = true }
    ∷ record { bytes = from_codes (volta 2 ∷ []); whole = false }
    ∷ record { bytes = from_codes (volta 3 ∷ volta 2 ∷ []); whole = false }
    ∷ record { bytes = from_codes (volta 1 ∷ volta 0 ∷ []); whole = false }
    ∷ record { bytes = from_codes (volta 1 ∷ volta 3 ∷ volta 2 ∷ []); whole = false }
    ∷ record { bytes = from_codes (volta 1 ∷ volta 1 ∷ volta 2 ∷ []); whole = false }
    ∷ record { bytes = from_codes (volta 4 ∷ []); whole = false }
    -- more than 32 parts, of no measures
    ∷ record { bytes = le32 33 ++ zeros (first_part - count_width + 33 * 20); whole = true } ∷ []

pub table : map (λ (c : Case). is_whole c.bytes) cases ≡ map (λ (c : Case). c.whole) cases
unfolding opened
table = refl

-- A COUNT OF 4,294,967,295 PARTS in ten bytes
abbrev pub many : List ℕ
many = le32 4294967295 ++ zeros 6

pub too_many : is_whole many ≡ false
unfolding opened
too_many = first_broken many (lit≤ tt) refl
