-- Every byte of a part's records is below 256.
use Prim.Native.Nat.{ℕ, suc, ◌+◌, ◌≤◌, ◌<◌}
use mathlib.Core.Bool.{Bool, true, false}
use mathlib.Core.Option.{Option, none, some}
use mathlib.Core.List.{List, [], ◌∷◌, ◌++◌, map}
use native.Mathlib.Omega.{arith}
use lib.Dec.{ltb, lit<, lit≤}
use lib.ListN.{length, get_or}
use Rattle.laws.specs.Lists.{All, concat}
use Rattle.laws.specs.Bytes.{le32}
use Rattle.laws.proofs.Bools.{by_test}
use Rattle.laws.proofs.Lists.{All-append}
use Rattle.laws.proofs.Numbers.{little_bytes}
use Rattle.reader.proofs.CodeLaws.{bit_le}
use Rattle.standard.specs.Keys.{Key}
use Rattle.standard.specs.Bars.{Barline, normal, repeat_start, repeat_end, repeat_both, double, final}
use Rattle.standard.specs.Notes
use Rattle.standard.specs.Notes.{NoteKind, Beam}
use Rattle.standard.specs.Lyrics
use Rattle.standard.specs.Lyrics.{Syllabic}
use Rattle.standard.specs.Pitches.{Pitch}
use Rattle.reader.specs.State.{Note, Measure, Volta, no_volta, volta_begins, volta_ends, volta_alone}
use Rattle.reader.specs.Lyrics.{Syllable}
use Rattle.reader.specs.Part.{Part}
use Rattle.reader.specs.Codes.{barline_code, volta_code, mode_code, kind_code, beam_code, syllabic_code}
use Rattle.reader.specs.Records.{signed8, signed16, key_mark_bytes, pass_bits, note_counts, measure_bytes, is_unbeamed, flag_byte, note_bytes, pitch_bytes, lyric_bytes, tagged, by_voice, all_notes, is_sung, lyrics_of, section, notes_of, pitches_of, lyrics, lyric_text, sections}
use Rattle.bounds.specs.Ranges.{Bytes, PassesFit, PitchFits, NoteFits, MeasureFits, SyllableFits, PartFits}

-- two lists of bytes, one after the other
pub both : (a b : List ℕ) → Bytes a → Bytes b → Bytes (a ++ b)
both a b = All-append (λ c. c < 256) a b

-- CODES: "0 normal .. 5 final"
pub barline_range : (b : Barline) → barline_code b ≤ 5
barline_range normal = lit≤ tt
barline_range repeat_start = lit≤ tt
barline_range repeat_end = lit≤ tt
barline_range repeat_both = lit≤ tt
barline_range double = lit≤ tt
barline_range final = lit≤ tt

-- a volta
pub volta_range : (v : Volta) → volta_code v ≤ 3
unfolding volta_code
volta_range no_volta = lit≤ tt
volta_range volta_begins = lit≤ tt
volta_range volta_ends = lit≤ tt
volta_range volta_alone = lit≤ tt

-- a mode
pub mode_range : (m : Bool) → mode_code m ≤ 2
unfolding mode_code
mode_range true = lit≤ tt
mode_range false = lit≤ tt

-- a kind of note
pub kind_range : (k : NoteKind) → kind_code k ≤ 4
unfolding kind_code
kind_range Notes.sounded = lit≤ tt
kind_range Notes.rest = lit≤ tt
kind_range Notes.invisible_rest = lit≤ tt
kind_range Notes.bar_rest = lit≤ tt
kind_range Notes.invisible_bar_rest = lit≤ tt

-- a beam
pub beam_range : (b : Beam) → beam_code b ≤ 3
unfolding beam_code
beam_range Notes.unbeamed = lit≤ tt
beam_range Notes.begins = lit≤ tt
beam_range Notes.continues = lit≤ tt
beam_range Notes.ends = lit≤ tt

-- a place in a word
pub syllabic_range : (s : Syllabic) → syllabic_code s ≤ 3
unfolding syllabic_code
syllabic_range Lyrics.single = lit≤ tt
syllabic_range Lyrics.begins = lit≤ tt
syllabic_range Lyrics.ends = lit≤ tt
syllabic_range Lyrics.middle = lit≤ tt

-- a signed number
signed_byte : (n : ℕ) → signed8 n < 256
unfolding signed8
signed_byte n = omega arith

-- one of two bytes
signed_bytes : (n : ℕ) → Bytes (signed16 n)
unfolding signed16
signed_bytes n = by_test (ltb n 128) (λ e. rw e (signed_byte n, (lit< tt, tt))) (λ e. rw e (signed_byte n, (lit< tt, tt)))

-- MEASURE
counts_bytes : (vs : List (List Note)) → Bytes (note_counts vs)
unfolding note_counts
counts_bytes [] = tt
counts_bytes (v ∷ vs) = All-append _ (le32 (length v)) (note_counts vs) (little_bytes 4 (length v)) (counts_bytes vs)

-- a key mark
mark_bytes : (k : Option Key) → Bytes (key_mark_bytes k)
unfolding key_mark_bytes
mark_bytes none = (lit< tt, (lit< tt, tt))
mark_bytes (some k) = (omega (arith, mode_range k.minor), (signed_byte k.fifths, tt))

-- the first pass
first_pass : (low : ℕ) (ps : List ℕ) → PassesFit low ps → get_or ps 0 0 < 256
unfolding PassesFit
first_pass low [] h = lit< tt
first_pass low (p ∷ ps) h = omega (arith, h.1.0)

-- a measure's record
pub measure_bytes_lem : (m : Measure) → MeasureFits m → Bytes (measure_bytes m)
unfolding measure_bytes
measure_bytes_lem m h =
    let one = note_counts m.voices in
    let two : List ℕ = barline_code m.left ∷ barline_code m.right ∷ m.meter.0 ∷ m.meter.1 ∷ [] in
    let three = key_mark_bytes m.key in
    let four : List ℕ = volta_code m.volta ∷ get_or m.passes 0 0 ∷ le32 (pass_bits m.passes) in
    let b : Bytes two = (omega (arith, barline_range m.left), (omega (arith, barline_range m.right), (h.meter_fits.0, (h.meter_fits.1, tt)))) in
    let d : Bytes four = (omega (arith, volta_range m.volta), (first_pass 0 m.passes h.passes_fit, little_bytes 4 (pass_bits m.passes))) in
    both (one ++ two ++ three) four (both (one ++ two) three (both one two (counts_bytes m.voices) b) (mark_bytes m.key)) d

-- NOTE: its flags are six bits
pub flag_range : (n : Note) → flag_byte n < 64
unfolding flag_byte
flag_range n =
    let f = n.flags in
    omega (arith, bit_le f.tie_start 1, bit_le f.tie_end 2, bit_le f.slur_start 4, bit_le f.slur_end 8, bit_le f.grace 16, bit_le (is_unbeamed n) 32)

-- a note's record
pub note_bytes_lem : (n : Note) → NoteFits n → Bytes (note_bytes n)
unfolding note_bytes
note_bytes_lem n h =
    (omega (arith, kind_range n.kind), (omega (arith, h.value_fits), (omega (arith, h.dots_fit), (omega (arith, flag_range n), (omega (arith, beam_range n.beam), (h.actual_fits, (h.normal_fits, (omega (arith, h.boundary_fits), little_bytes 4 (length n.pitches)))))))))

-- PITCH
-- a pitch's record
pub pitch_bytes_lem : (p : Pitch) → PitchFits p → Bytes (pitch_bytes p)
unfolding pitch_bytes
pitch_bytes_lem p h = (omega (arith, h.step_fits), (signed_byte p.octave, (signed_byte p.alter, signed_bytes p.cents)))

-- LYRIC
-- a lyric's record
pub lyric_bytes_lem : (i : ℕ) (y : Syllable) → SyllableFits y → Bytes (lyric_bytes i y)
unfolding lyric_bytes
lyric_bytes_lem i y h =
    All-append _ (le32 i) _ (little_bytes 4 i) (omega (arith, h.verse_fits.1), (omega (arith, syllabic_range y.syllabic), (omega (arith, bit_le y.extend 1), little_bytes 4 (length y.text))))

-- WHAT A PART WRITES
tagged_fit : (v : ℕ) (ns : List Note) → All NoteFits ns → All (λ (x : ℕ × Note). NoteFits x.1) (tagged v ns)
unfolding tagged
tagged_fit v [] h = tt
tagged_fit v (n ∷ ns) h = (h.0, tagged_fit v ns h.1)

-- the notes of a measure
voices_fit : (v : ℕ) (vs : List (List Note)) → All (All NoteFits) vs → All (λ (x : ℕ × Note). NoteFits x.1) (by_voice v vs)
unfolding by_voice
voices_fit v [] h = tt
voices_fit v (ns ∷ vs) h = All-append _ (tagged v ns) (by_voice (suc v) vs) (tagged_fit v ns h.0) (voices_fit (suc v) vs h.1)

-- all notes
pub notes_fit : (ms : List Measure) → All MeasureFits ms → All (λ (x : ℕ × Note). NoteFits x.1) (all_notes ms)
unfolding all_notes
notes_fit [] h = tt
notes_fit (m ∷ ms) h = All-append _ (by_voice 0 m.voices) (all_notes ms) (voices_fit 0 m.voices h.0.voices_fit) (notes_fit ms h.1)

-- their pitches
pub pitches_fit : (xs : List (ℕ × Note)) → All (λ (x : ℕ × Note). NoteFits x.1) xs → All PitchFits (concat (map (λ (x : ℕ × Note). x.1.pitches) xs))
pitches_fit [] h = tt
pitches_fit (x ∷ xs) h = All-append PitchFits x.1.pitches _ h.0.pitches_fit (pitches_fit xs h.1)

-- a note's syllables
placed_fit : (i : ℕ) (w : List Syllable) → All SyllableFits w → All (λ (x : ℕ × Syllable). SyllableFits x.1) (map (λ y. (i, y)) w)
placed_fit i [] h = tt
placed_fit i (y ∷ w) h = (h.0, placed_fit i w h.1)

-- all syllables
pub lyrics_fit : (i : ℕ) (xs : List (ℕ × Note)) (ws : List (List Syllable)) → All (All SyllableFits) ws → All (λ (x : ℕ × Syllable). SyllableFits x.1) (lyrics_of i xs ws)
unfolding lyrics_of
lyrics_fit i [] ws h = tt
lyrics_fit i (x ∷ xs) [] h = tt
lyrics_fit i (x ∷ xs) (w ∷ ws) h =
    by_test (is_sung x)
    (λ e. rw (e, lyrics_of) (All-append _ (map (λ y. (i, y)) w) (lyrics_of (suc i) xs ws) (placed_fit i w h.0) (lyrics_fit (suc i) xs ws h.1)))
    (λ e. rw (e, lyrics_of) (lyrics_fit (suc i) xs (w ∷ ws) h))

-- their text
text_fits : (ys : List (ℕ × Syllable)) → All (λ (x : ℕ × Syllable). SyllableFits x.1) ys → Bytes (concat (map (λ (x : ℕ × Syllable). x.1.text) ys))
text_fits [] h = tt
text_fits (y ∷ ys) h = All-append _ y.1.text _ h.0.text_fits (text_fits ys h.1)

-- a section of records that are of bytes
section_bytes {ℓ} : {A : Type ℓ} (P : A → Type 0) (f : A → List ℕ) → ((x : A) → P x → Bytes (f x)) → (xs : List A) → All P xs → Bytes (section f xs)
unfolding section
section_bytes {A = A} P f h xs k = All-append _ (le32 (length xs)) _ (little_bytes 4 (length xs)) (records xs k)
  where
    records : (xs : List A) → All P xs → Bytes (concat (map f xs))
    records [] k = tt
    records (x ∷ xs) k = All-append _ (f x) _ (h x k.0) (records xs k.1)

-- five lists of bytes, one after the other
five : (a b c d e : List ℕ) → Bytes a → Bytes b → Bytes c → Bytes d → Bytes e → Bytes (a ++ b ++ c ++ d ++ e)
five a b c d e p q r s t = both (a ++ b ++ c ++ d) e (both (a ++ b ++ c) d (both (a ++ b) c (both a b p q) r) s) t

-- THE FIVE SECTIONS OF A PART
pub sections_bytes : (p : Part) → PartFits p → Bytes (sections p)
unfolding sections notes_of pitches_of lyrics lyric_text
sections_bytes p h =
    let ns = all_notes p.measures in
    let ys = lyrics_of 0 ns p.words in
    let ps = concat (map (λ (x : ℕ × Note). x.1.pitches) ns) in
    let ts = concat (map (λ (x : ℕ × Syllable). x.1.text) ys) in
    let nf : All (λ (x : ℕ × Note). NoteFits x.1) ns = notes_fit p.measures h.measures_fit in
    let yf : All (λ (x : ℕ × Syllable). SyllableFits x.1) ys = lyrics_fit 0 ns p.words h.words_fit in
    let bn : ℕ × Note → List ℕ = λ x. note_bytes x.1 in
    let by : ℕ × Syllable → List ℕ = λ x. lyric_bytes x.0 x.1 in
    let bt : ℕ → List ℕ = λ c. c ∷ [] in
    five (section measure_bytes p.measures) (section bn ns) (section pitch_bytes ps) (section by ys) (section bt ts)
    (section_bytes MeasureFits measure_bytes measure_bytes_lem p.measures h.measures_fit)
    (section_bytes (λ (x : ℕ × Note). NoteFits x.1) bn (λ x. note_bytes_lem x.1) ns nf)
    (section_bytes PitchFits pitch_bytes pitch_bytes_lem ps (pitches_fit ns nf))
    (section_bytes (λ (x : ℕ × Syllable). SyllableFits x.1) by (λ x. lyric_bytes_lem x.0 x.1) ys yf)
    (section_bytes (λ (c : ℕ). c < 256) bt (λ c k. (k, tt)) ts (text_fits ys yf))
