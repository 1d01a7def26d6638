-- THE FIVE SECTIONS of a part as the code leaves it.
use Rattle.std.specs.Prelude.{ℕ, ◌+◌, Bool, true, false, List, [], ◌∷◌, ◌++◌, map, eqb, take, drop, get_or}
use Rattle.laws.specs.Lists.{concat, filter}
use Rattle.laws.specs.Bytes.{le32}
use Rattle.standard.specs.Pitches.{Pitch}
use Rattle.reader.specs.State.{Note}
use Rattle.reader.specs.Lyrics.{Syllable}
use Rattle.reader.specs.Codes.{barline_code, volta_code}
use Rattle.reader.specs.Records.{key_mark_bytes, pass_bits, note_bytes, pitch_bytes, lyric_bytes, lyrics_of, section}
use Rattle.part_layout.specs.Log.{Head, notes_in}
use Rattle.part_layout.specs.Ends.{Laid}

-- MEASURE: measure_width bytes, where its counts are four
unfoldable pub head_bytes : Head → List ℕ
head_bytes m =
    concat (map le32 m.counts)
    ++ (barline_code m.left ∷ barline_code m.right ∷ m.meter.0 ∷ m.meter.1 ∷ [])
    ++ key_mark_bytes m.key
    ++ (volta_code m.volta ∷ get_or m.passes 0 0 ∷ le32 (pass_bits m.passes))

-- the notes of one voice
unfoldable pub of_voice : ℕ → List (ℕ × Note) → List (ℕ × Note)
of_voice v log = filter (λ (x : ℕ × Note). eqb x.0 v) log

-- a measure's notes by voice 0 to 3
unfoldable pub by_voice : List (ℕ × Note) → List (ℕ × Note)
by_voice log = of_voice 0 log ++ of_voice 1 log ++ of_voice 2 log ++ of_voice 3 log

-- "Notes run by measure, then by voice 0 to 3, then as written"
unfoldable pub in_order : List Head → List (ℕ × Note) → List (ℕ × Note)
in_order [] log = []
in_order (m ∷ ms) log = by_voice (take (notes_in m) log) ++ in_order ms (drop (notes_in m) log)

unfoldable pub notes_of : Laid → List (ℕ × Note)
notes_of p = in_order p.heads p.log

unfoldable pub pitches_of : Laid → List Pitch
pitches_of p = concat (map (λ (x : ℕ × Note). x.1.pitches) (notes_of p))

unfoldable pub lyrics : Laid → List (ℕ × Syllable)
lyrics p = lyrics_of 0 (notes_of p) p.words

unfoldable pub lyric_text : Laid → List ℕ
lyric_text p = concat (map (λ (x : ℕ × Syllable). x.1.text) (lyrics p))

unfoldable pub sections : Laid → List ℕ
sections p =
    section head_bytes p.heads
    ++ section (λ (x : ℕ × Note). note_bytes x.1) (notes_of p)
    ++ section pitch_bytes (pitches_of p)
    ++ section (λ (x : ℕ × Syllable). lyric_bytes x.0 x.1) (lyrics p)
    ++ section (λ (c : ℕ). c ∷ []) (lyric_text p)
