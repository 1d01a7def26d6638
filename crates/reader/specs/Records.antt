-- THE READING'S BYTES (document 01, "The reading"): five sections, each after its count.
use Rattle.std.specs.Prelude.{ℕ, suc, ◌+◌, ◌-◌, ◌%◌, ◌^◌, Bool, true, false, cond, ◌&&◌, List, [], ◌∷◌, ◌++◌, map, ltb, eqb, length, get_or}
use Rattle.std.proofs.Math.Option.{Option, none, some}
use Rattle.laws.specs.Lists.{concat}
use Rattle.laws.specs.Bytes.{le32}
use Rattle.standard.specs.Keys.{Key}
use Rattle.standard.specs.Pitches.{Pitch}
use Rattle.standard.specs.Notes.{is_sounded}
use Rattle.reader.specs.State.{Note, Measure}
use Rattle.reader.specs.Lyrics.{Syllable}
use Rattle.reader.specs.Part.{Part, can_beam}
use Rattle.reader.specs.Codes.{barline_code, volta_code, mode_code, kind_code, beam_code, syllabic_code, bit}

-- the widths of the records
abbrev pub measure_width : ℕ
measure_width = 28

abbrev pub note_width : ℕ
note_width = 12

abbrev pub pitch_width : ℕ
pitch_width = 5

abbrev pub lyric_width : ℕ
lyric_width = 11

-- a signed number, kept with 128 added, in one byte
unfoldable pub signed8 : ℕ → ℕ
signed8 n = (n + 128) % 256

-- the same in two bytes, the lower first
unfoldable pub signed16 : ℕ → List ℕ
signed16 n = signed8 n ∷ cond (ltb n 128) 255 0 ∷ []

-- MEASURE, 28 bytes
-- "key mark (0 none, 1 major, 2 minor); fifths (signed, 0 if no mark)"
unfoldable pub key_mark_bytes : Option Key → List ℕ
key_mark_bytes none = 0 ∷ 0 ∷ []
key_mark_bytes (some k) = mode_code k.minor ∷ signed8 k.fifths ∷ []

-- "passes as u32, bit p−1 for pass p"
unfoldable pub pass_bits : List ℕ → ℕ
pass_bits [] = 0
pass_bits (p ∷ ps) = 2 ^ (p - 1) + pass_bits ps

-- "note counts of four voices (u32 each)"
unfoldable pub note_counts : List (List Note) → List ℕ
note_counts [] = []
note_counts (v ∷ vs) = le32 (length v) ++ note_counts vs

-- note counts; left and right barline; meter; key mark and fifths; volta; first pass; passes
unfoldable pub measure_bytes : Measure → List ℕ
measure_bytes m =
    note_counts m.voices
    ++ (barline_code m.left ∷ barline_code m.right ∷ m.meter.0 ∷ m.meter.1 ∷ [])
    ++ key_mark_bytes m.key
    ++ (volta_code m.volta ∷ get_or m.passes 0 0 ∷ le32 (pass_bits m.passes))

-- NOTE, 12 bytes
-- "flag 32 uses the final value (eighth to 128th, beam none)"
unfoldable pub is_unbeamed : Note → Bool
is_unbeamed n = can_beam n && eqb (beam_code n.beam) 0

-- the flags' sum
unfoldable pub flag_byte : Note → ℕ
flag_byte n =
    let f = n.flags in
    bit f.tie_start 1 + bit f.tie_end 2 + bit f.slur_start 4 + bit f.slur_end 8 + bit f.grace 16 + bit (is_unbeamed n) 32

-- kind, value, dots, flags, beam, tuplet actual and normal, boundary, pitch count
unfoldable pub note_bytes : Note → List ℕ
note_bytes n =
    kind_code n.kind
    ∷ n.value
    ∷ n.dots
    ∷ flag_byte n
    ∷ beam_code n.beam
    ∷ n.group.actual
    ∷ n.group.normal
    ∷ n.group.boundary
    ∷ le32 (length n.pitches)

-- PITCH, 5 bytes
unfoldable pub pitch_bytes : Pitch → List ℕ
pitch_bytes p = p.step ∷ signed8 p.octave ∷ signed8 p.alter ∷ signed16 p.cents

-- LYRIC, 11 bytes, of the note at index i
unfoldable pub lyric_bytes : ℕ → Syllable → List ℕ
lyric_bytes i y = le32 i ++ (y.verse ∷ syllabic_code y.syllabic ∷ bit y.extend 1 ∷ le32 (length y.text))

-- THE NOTES "run by measure, then by voice 0 to 3, then as written", each with the number of its voice
unfoldable pub tagged : ℕ → List Note → List (ℕ × Note)
tagged v ns = map (λ n. (v, n)) ns

-- the voices' notes from voice v on
unfoldable pub by_voice : ℕ → List (List Note) → List (ℕ × Note)
by_voice v [] = []
by_voice v (ns ∷ vs) = tagged v ns ++ by_voice (suc v) vs

-- all notes of the part
unfoldable pub all_notes : List Measure → List (ℕ × Note)
all_notes [] = []
all_notes (m ∷ ms) = by_voice 0 m.voices ++ all_notes ms

-- a voice 0 note that is no rest
unfoldable pub is_sung : ℕ × Note → Bool
is_sung x = eqb x.0 0 && is_sounded x.1.kind

-- the syllables "by note, then verse", each with its note's index; the sung notes take the lists in turn
unfoldable pub lyrics_of : ℕ → List (ℕ × Note) → List (List Syllable) → List (ℕ × Syllable)
lyrics_of i [] ws = []
lyrics_of i (x ∷ xs) [] = []
lyrics_of i (x ∷ xs) (w ∷ ws) = elim (is_sung x) [ true ↦ map (λ y. (i, y)) w ++ lyrics_of (suc i) xs ws | false ↦ lyrics_of (suc i) xs (w ∷ ws) ]

-- a section after its count
unfoldable pub section {ℓ} : {A : Type ℓ} → (A → List ℕ) → List A → List ℕ
section f xs = le32 (length xs) ++ concat (map f xs)

-- the notes, pitches, lyrics and lyric text of a part
unfoldable pub notes_of : Part → List (ℕ × Note)
notes_of p = all_notes p.measures

unfoldable pub pitches_of : Part → List Pitch
pitches_of p = concat (map (λ (x : ℕ × Note). x.1.pitches) (notes_of p))

unfoldable pub lyrics : Part → List (ℕ × Syllable)
lyrics p = lyrics_of 0 (notes_of p) p.words

unfoldable pub lyric_text : Part → List ℕ
lyric_text p = concat (map (λ (x : ℕ × Syllable). x.1.text) (lyrics p))

-- THE FIVE SECTIONS: "measures, notes, pitches, lyrics, lyric text (bytes)"
unfoldable pub sections : Part → List ℕ
sections p =
    section measure_bytes p.measures
    ++ section (λ (x : ℕ × Note). note_bytes x.1) (notes_of p)
    ++ section pitch_bytes (pitches_of p)
    ++ section (λ (x : ℕ × Syllable). lyric_bytes x.0 x.1) (lyrics p)
    ++ section (λ (c : ℕ). c ∷ []) (lyric_text p)
