-- THE RECORDS THAT A PART WRITES pass the tests of a whole reading, and say the counts of what they were written from.
use Prim.Native.Nat.{ℕ, ◌+◌, ◌^◌, ◌≤◌, ◌<◌}
use mathlib.Core.Path.{◌≡◌, refl, ap, subst}
use mathlib.Core.Bool.{true}
use mathlib.Core.Option.{Option, none, some}
use mathlib.Core.List.{List, [], ◌∷◌, ◌++◌}
use native.Mathlib.Omega.{arith}
use lib.Dec.{leb, ltb, lit<, lit≤}
use lib.ListN.{length, get_or}
use borrow.Author.Tests.{le-leb, lt-ltb}
use Rattle.laws.specs.Lists.{All, sum}
use Rattle.laws.specs.Bytes.{little, le32, u32_at}
use Rattle.laws.proofs.Bools.{and_both}
use Rattle.laws.proofs.Lists.{All-here}
use Rattle.standard.specs.Keys.{Key}
use Rattle.reader.specs.State.{Note, Measure, with_voices}
use Rattle.reader.specs.Lyrics.{Syllable}
use Rattle.reader.specs.Codes.{barline_code, volta_code, kind_code, beam_code, syllabic_code, bit}
use Rattle.reader.specs.Records.{key_mark_bytes, pass_bits, note_counts, measure_bytes, flag_byte, note_bytes, pitch_bytes, lyric_bytes}
use Rattle.reader.proofs.CodeLaws.{bit_le}
use Rattle.reader.proofs.Sizes.{Four}
use Rattle.bounds.specs.Ranges.{NoteFits, PitchFits, SyllableFits, FourBytes}
use Rattle.bounds.proofs.RecordBytes.{barline_range, volta_range, mode_range, kind_range, beam_range, syllabic_range, flag_range}
use Rattle.reading_records.specs.Fields.{left_field, right_field, key_mark_field, volta_field, kind_field, value_field, dots_field, flags_field, beam_field, boundary_field, pitches_field, step_field, verse_field, syllabic_field, extend_field, text_field}
use Rattle.reading_sections.specs.Sections.{byte_at, volta_of, notes_in}
use Rattle.reading_sections.proofs.Encoded.{Here, past, number_here, of_note, of_lyric}
use Rattle.reading_whole.specs.Whole.{is_measure, is_note, is_pitch, is_lyric}
use Rattle.reading_from_text.proofs.Records.{byte_here, Says}

-- A BYTE in its range, where k of what stands at r is n
module _ {s : List ℕ} {r : ℕ} {bs : List ℕ} (h : Here s r bs) where
  byte_le : (k n m : ℕ) → get_or bs k 0 ≡ n → n ≤ m → leb (byte_at s r k) m ≡ true
  byte_le k n m e l = le-leb (byte_at s r k) m (omega (arith, byte_here k h, e, l))

  byte_lt : (k n m : ℕ) → get_or bs k 0 ≡ n → n < m → ltb (byte_at s r k) m ≡ true
  byte_lt k n m e l = lt-ltb (byte_at s r k) m (omega (arith, byte_here k h, e, l))

-- NOTES
pub note_whole : (s : List ℕ) → Says (λ (x : ℕ × Note). NoteFits x.1) of_note s (is_note s) (λ x. true)
unfolding is_note note_bytes
note_whole s r x b f h =
    let n = x.1 in
    and_both _ _
    (and_both _ _
    (and_both _ _
    (and_both _ _
    (and_both _ _ (byte_le h kind_field (kind_code n.kind) 4 refl (kind_range n.kind)) (byte_le h value_field n.value 10 refl f.value_fits))
    (byte_le h dots_field n.dots 3 refl f.dots_fit))
    (byte_lt h flags_field (flag_byte n) 64 refl (flag_range n)))
    (byte_le h beam_field (beam_code n.beam) 3 refl (beam_range n.beam)))
    (byte_le h boundary_field n.group.boundary 3 refl (omega (arith, f.boundary_fits)))

-- the count of a note's pitches
pub note_pitches : (s : List ℕ) → Says (λ (x : ℕ × Note). FourBytes (length x.1.pitches)) of_note s (λ r. u32_at s (r + pitches_field)) (λ x. length x.1.pitches)
unfolding note_bytes
note_pitches s r x b c h =
    let n = x.1 in
    let before : List ℕ = kind_code n.kind ∷ n.value ∷ n.dots ∷ flag_byte n ∷ beam_code n.beam ∷ n.group.actual ∷ n.group.normal ∷ n.group.boundary ∷ [] in
    number_here (length n.pitches) b c (past before (le32 (length n.pitches) ++ b) pitches_field refl h)

-- PITCHES
pub pitch_whole : (s : List ℕ) → Says PitchFits pitch_bytes s (is_pitch s) (λ x. true)
unfolding is_pitch pitch_bytes
pitch_whole s r p b f h = byte_le h step_field p.step 6 refl (omega (arith, f.step_fits))

-- LYRICS of a part of n notes
pub lyric_whole : (s : List ℕ) (n : ℕ) → FourBytes n → Says (λ (x : ℕ × Syllable). (x.0 < n) × SyllableFits x.1) of_lyric s (is_lyric s n) (λ x. true)
unfolding is_lyric lyric_bytes little
lyric_whole s n small r x b f h =
    let y = x.1 in
    let behind : List ℕ = y.verse ∷ syllabic_code y.syllabic ∷ bit y.extend 1 ∷ (le32 (length y.text) ++ b) in
    let i : u32_at s r ≡ x.0 = number_here x.0 behind (omega (arith, f.0, small)) h in
    and_both _ _
    (and_both _ _
    (and_both _ _
    (and_both _ _ (lt-ltb (u32_at s r) n (omega (arith, i, f.0))) (le-leb 1 (byte_at s r verse_field) (omega (arith, byte_here verse_field h, f.1.verse_fits.0))))
    (byte_le h verse_field y.verse 32 refl f.1.verse_fits.1))
    (byte_le h syllabic_field (syllabic_code y.syllabic) 3 refl (syllabic_range y.syllabic)))
    (byte_le h extend_field (bit y.extend 1) 1 refl (bit_le y.extend 1))

-- the length of a lyric's text
pub lyric_text_lem : (s : List ℕ) → Says (λ (x : ℕ × Syllable). FourBytes (length x.1.text)) of_lyric s (λ r. u32_at s (r + text_field)) (λ x. length x.1.text)
unfolding lyric_bytes little
lyric_text_lem s r x b c h =
    let y = x.1 in
    let before : List ℕ = le32 x.0 ++ (y.verse ∷ syllabic_code y.syllabic ∷ bit y.extend 1 ∷ []) in
    number_here (length y.text) b c (past before (le32 (length y.text) ++ b) text_field refl h)

-- MEASURES
-- a byte of a key mark
abbrev mark_byte : ℕ → Option Key → ℕ
mark_byte i k = get_or (key_mark_bytes k) i 0

mark_range : (k : Option Key) → mark_byte 0 k ≤ 2
unfolding key_mark_bytes
mark_range none = lit≤ tt
mark_range (some k) = mode_range k.minor

-- a voice by its number
abbrev voice : ℕ → List (List Note) → List Note
voice i vs = get_or vs i []

four_voices : (vs : List (List Note)) → length vs ≡ 4 → vs ≡ voice 0 vs ∷ voice 1 vs ∷ voice 2 vs ∷ voice 3 vs ∷ []
four_voices [] e = absurd (let z : ◌≡◌ {A = ℕ} 0 4 = e in omega arith)
four_voices (v ∷ []) e = absurd (let z : ◌≡◌ {A = ℕ} 1 4 = e in omega arith)
four_voices (v ∷ w ∷ []) e = absurd (let z : ◌≡◌ {A = ℕ} 2 4 = e in omega arith)
four_voices (v ∷ w ∷ x ∷ []) e = absurd (let z : ◌≡◌ {A = ℕ} 3 4 = e in omega arith)
four_voices (v ∷ w ∷ x ∷ y ∷ []) e = refl
four_voices (v ∷ w ∷ x ∷ y ∷ z ∷ zs) e = absurd (omega (arith, e))

-- its bytes behind the counts of its voices
abbrev from_bars : Measure → List ℕ → List ℕ
from_bars m b =
    barline_code m.left ∷ barline_code m.right ∷ m.meter.0 ∷ m.meter.1 ∷ mark_byte 0 m.key ∷ mark_byte 1 m.key ∷ volta_code m.volta ∷ get_or m.passes 0 0 ∷ (le32 (pass_bits m.passes) ++ b)

-- with the voices u to x and the key mark k
with_both : (u v w x : List Note) (k : Option Key) (m : Measure) → Measure
with_both u v w x k m = record { voices = u ∷ v ∷ w ∷ x ∷ []; left = m.left; right = m.right; meter = m.meter; key = k; volta = m.volta; passes = m.passes }

both_laid : (u v w x : List Note) (k : Option Key) (m : Measure) (b : List ℕ)
    → measure_bytes (with_both u v w x k m) ++ b ≡ le32 (length u) ++ (le32 (length v) ++ (le32 (length w) ++ (le32 (length x) ++ from_bars (with_both u v w x k m) b)))
unfolding with_both measure_bytes note_counts key_mark_bytes little
both_laid u v w x none m b = refl
both_laid u v w x (some k) m b = refl

-- all its bytes, the four counts first
abbrev laid : Measure → List ℕ → List ℕ
laid m b = le32 (length (voice 0 m.voices)) ++ (le32 (length (voice 1 m.voices)) ++ (le32 (length (voice 2 m.voices)) ++ (le32 (length (voice 3 m.voices)) ++ from_bars m b)))

laid_here : {s : List ℕ} {r : ℕ} (m : Measure) (b : List ℕ) → Four m → Here s r (measure_bytes m ++ b) → Here s r (laid m b)
unfolding with_both
laid_here {s} {r} m b f h =
    let vs = m.voices in
    subst (Here s r) (both_laid (voice 0 vs) (voice 1 vs) (voice 2 vs) (voice 3 vs) m.key m b) (subst (λ (l : List (List Note)). Here s r (measure_bytes (with_voices l m) ++ b)) (four_voices vs f) h)

pub measure_whole : (s : List ℕ) → Says Four measure_bytes s (is_measure s) (λ m. true)
unfolding is_measure little
measure_whole s r m b f x =
    let h = laid_here m b f x in
    and_both _ _
    (and_both _ _
    (and_both _ _ (byte_le h left_field (barline_code m.left) 5 refl (barline_range m.left)) (byte_le h right_field (barline_code m.right) 5 refl (barline_range m.right)))
    (byte_le h key_mark_field (mark_byte 0 m.key) 2 refl (mark_range m.key)))
    (byte_le h volta_field (volta_code m.volta) 3 refl (volta_range m.volta))

-- its volta
pub measure_volta : (s : List ℕ) → Says Four measure_bytes s (volta_of s) (λ m. volta_code m.volta)
unfolding little
measure_volta s r m b f x = byte_here volta_field (laid_here m b f x)

-- the notes of its four voices
pub measure_notes : (s : List ℕ) → Says (λ (m : Measure). Four m × All (λ (v : List Note). FourBytes (length v)) m.voices) measure_bytes s (notes_in s) (λ m. sum length m.voices)
unfolding notes_in little
measure_notes s r m b f x =
    let h = laid_here m b f.0 x in
    let vs = m.voices in
    let small : (i : ℕ) → length (voice i vs) < 2 ^ 32 = λ i. All-here (λ (v : List Note). FourBytes (length v)) vs f.1 i [] (lit< tt) in
    let c0 = le32 (length (voice 0 vs)) in
    let c1 = le32 (length (voice 1 vs)) in
    let c2 = le32 (length (voice 2 vs)) in
    let c3 = le32 (length (voice 3 vs)) in
    let t = from_bars m b in
    let e0 : u32_at s r ≡ length (voice 0 vs) = number_here (length (voice 0 vs)) (c1 ++ (c2 ++ (c3 ++ t))) (small 0) h in
    let e1 : u32_at s (r + 4) ≡ length (voice 1 vs) = number_here (length (voice 1 vs)) (c2 ++ (c3 ++ t)) (small 1) (past c0 (c1 ++ (c2 ++ (c3 ++ t))) 4 refl h) in
    let e2 : u32_at s (r + 8) ≡ length (voice 2 vs) = number_here (length (voice 2 vs)) (c3 ++ t) (small 2) (past (c0 ++ c1) (c2 ++ (c3 ++ t)) 8 refl h) in
    let e3 : u32_at s (r + 12) ≡ length (voice 3 vs) = number_here (length (voice 3 vs)) t (small 3) (past (c0 ++ (c1 ++ c2)) (c3 ++ t) 12 refl h) in
    omega (arith, e0, e1, e2, e3, ap (sum length) (four_voices vs f.0))
