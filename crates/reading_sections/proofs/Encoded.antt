-- THE BYTES OF A READING, section by section: where a part's records stand in its store, and what the store holds after a call.
use Prim.Native.Nat.{ℕ, zero, suc, ◌+◌, ◌-◌, ◌*◌, ◌^◌, ◌<◌}
use mathlib.Core.Path.{◌≡◌, refl, sym, ap, subst, ◌∙◌}
use mathlib.Core.List.{List, [], ◌∷◌, ◌++◌, map, append_assoc}
use native.Mathlib.Omega.{arith}
use lib.Seq.{drop-drop, drop_at, take_at}
use lib.ListN.{length, take, drop, length-append}
use Rattle.laws.specs.Lists.{All, concat}
use Rattle.laws.specs.Bytes.{little_at, le32, u32_at, zeros}
use Rattle.laws.proofs.Lists.{All-every, concat_length}
use Rattle.laws.proofs.Numbers.{length_little, little_at_own, little_at_little}
use Rattle.laws.proofs.Parts.{part_cut}
use Rattle.editions.specs.declared.Edition.{Edition}
use Rattle.reader.specs.State.{Note}
use Rattle.reader.specs.Lyrics.{Syllable}
use Rattle.reader.specs.Part.{Part}
use Rattle.reader.specs.Records.{measure_width, note_width, pitch_width, lyric_width, section, sections, notes_of, pitches_of, lyrics, lyric_text, measure_bytes, note_bytes, pitch_bytes, lyric_bytes}
use Rattle.reader.specs.Steps.{items_of}
use Rattle.reader.specs.Scan.{Item, Env}
use Rattle.reader.specs.Answer.{refusal, reading, Outcome, parts, encode, refused_with, written, parse_abc}
use Rattle.reader.proofs.Sizes.{Four, Fours, built_fours, measure_bytes_lem, note_bytes_lem, pitch_bytes_lem, lyric_bytes_lem}
use Rattle.bounds.specs.Ranges.{CountsFit}
use Rattle.bounds.proofs.ScanWeights.{voice_count}
use Rattle.bounds.proofs.Reading.{parts_after, outcome_cases}
use Rattle.reading_sections.specs.Sections.{behind, notes_at, pitches_at, lyrics_at, text_at}

-- s from `at` on is bs
pub record Here (s : List ℕ) (at : ℕ) (bs : List ℕ) : Type 0 where
  pub is : drop at s ≡ bs
  pub fits : at + length bs ≡ length s

-- behind its first piece
pub past : {s : List ℕ} {at : ℕ} (a b : List ℕ) (n : ℕ) → length a ≡ n → Here s at (a ++ b) → Here s (at + n) b
past {s} {at} a b n l h =
    record { is = sym (drop-drop n at s) ∙ ap (drop n) h.is ∙ drop_at a b n l; fits = omega (arith, h.fits, length-append a b, l) }

-- a number at its front
pub number_here : {s : List ℕ} {at : ℕ} (n : ℕ) (b : List ℕ) → n < 2 ^ 32 → Here s at (le32 n ++ b) → u32_at s at ≡ n
number_here {s} {at} n b h x =
    little_at_own 4 s at
    ∙ ap (λ (l : List ℕ). little_at 4 l 0) (sym (part_cut s at 4) ∙ ap (take 4) x.is ∙ take_at (le32 n) b 4 (length_little 4 n))
    ∙ little_at_little 4 n h

-- A SECTION
-- what is read off it: its count, its records, and what stands behind it
pub record Section (s : List ℕ) (at w n : ℕ) (recs rest : List ℕ) : Type 0 where
  pub count : u32_at s at ≡ n
  pub records : Here s (at + 4) (recs ++ rest)
  pub after : Here s (behind s w at) rest

pub section_here {ℓ} : {A : Type ℓ} (P : A → Type 0) (f : A → List ℕ) (w : ℕ) → ((x : A) → P x → length (f x) ≡ w) → {s : List ℕ} {at : ℕ} (xs : List A) → All P xs → length xs < 2 ^ 32 → (rest : List ℕ)
    → Here s at (section f xs ++ rest) → Section s at w (length xs) (concat (map f xs)) rest
unfolding section behind
section_here P f w h {s} {at} xs p small rest x =
    let recs = concat (map f xs) in
    let y : Here s at (le32 (length xs) ++ (recs ++ rest)) = subst (Here s at) (append_assoc (le32 (length xs)) recs rest) x in
    let n : u32_at s at ≡ length xs = number_here (length xs) (recs ++ rest) small y in
    let r : Here s (at + 4) (recs ++ rest) = past (le32 (length xs)) (recs ++ rest) 4 (length_little 4 (length xs)) y in
    let e : length recs ≡ w * u32_at s at = concat_length P f w h xs p ∙ ap (λ (k : ℕ). w * k) (sym n) in
    record { count = n; records = r; after = past recs rest (w * u32_at s at) e r }

-- A PART: its five sections one after the other
abbrev pub of_note : ℕ × Note → List ℕ
of_note x = note_bytes x.1

abbrev pub of_lyric : ℕ × Syllable → List ℕ
of_lyric x = lyric_bytes x.0 x.1

abbrev pub of_byte : ℕ → List ℕ
of_byte c = c ∷ []

-- what stands behind each section of p, where `rest` stands behind the part
abbrev pub after_lyrics : Part → List ℕ → List ℕ
after_lyrics p rest = section of_byte (lyric_text p) ++ rest

abbrev pub after_pitches : Part → List ℕ → List ℕ
after_pitches p rest = section of_lyric (lyrics p) ++ after_lyrics p rest

abbrev pub after_notes : Part → List ℕ → List ℕ
after_notes p rest = section pitch_bytes (pitches_of p) ++ after_pitches p rest

abbrev pub after_measures : Part → List ℕ → List ℕ
after_measures p rest = section of_note (notes_of p) ++ after_notes p rest

pub record PartHere (s : List ℕ) (at : ℕ) (p : Part) (rest : List ℕ) : Type 0 where
  pub measures : Section s at measure_width (length p.measures) (concat (map measure_bytes p.measures)) (after_measures p rest)
  pub notes : Section s (notes_at s at) note_width (length (notes_of p)) (concat (map of_note (notes_of p))) (after_notes p rest)
  pub pitches : Section s (pitches_at s at) pitch_width (length (pitches_of p)) (concat (map pitch_bytes (pitches_of p))) (after_pitches p rest)
  pub lyrics_are : Section s (lyrics_at s at) lyric_width (length (lyrics p)) (concat (map of_lyric (lyrics p))) (after_lyrics p rest)
  pub text : Section s (text_at s at) 1 (length (lyric_text p)) (concat (map of_byte (lyric_text p))) rest

five_behind : (a b c d e r : List ℕ) → (a ++ b ++ c ++ d ++ e) ++ r ≡ a ++ (b ++ (c ++ (d ++ (e ++ r))))
five_behind a b c d e r =
    append_assoc (a ++ b ++ c ++ d) e r ∙ append_assoc (a ++ b ++ c) d (e ++ r) ∙ append_assoc (a ++ b) c (d ++ (e ++ r)) ∙ append_assoc a b (c ++ (d ++ (e ++ r)))

pub part_sections : {s : List ℕ} {at : ℕ} (p : Part) → Fours p.measures → CountsFit p → (rest : List ℕ) → Here s at (sections p ++ rest) → PartHere s at p rest
unfolding sections
part_sections {s} {at} p f c rest h =
    let h₀ : Here s at (section measure_bytes p.measures ++ after_measures p rest) =
    subst (Here s at) (five_behind (section measure_bytes p.measures) (section of_note (notes_of p)) (section pitch_bytes (pitches_of p)) (section of_lyric (lyrics p)) (section of_byte (lyric_text p)) rest) h in
    let m = section_here Four measure_bytes measure_width measure_bytes_lem p.measures f c.measures_count (after_measures p rest) h₀ in
    let n = section_here (λ x. Unit {0}) of_note note_width note_bytes_lem (notes_of p) (All-every _ (λ x. tt) (notes_of p)) c.notes_count (after_notes p rest) m.after in
    let q = section_here (λ x. Unit {0}) pitch_bytes pitch_width pitch_bytes_lem (pitches_of p) (All-every _ (λ x. tt) (pitches_of p)) c.pitches_count (after_pitches p rest) n.after in
    let y = section_here (λ x. Unit {0}) of_lyric lyric_width lyric_bytes_lem (lyrics p) (All-every _ (λ x. tt) (lyrics p)) c.lyrics_count (after_lyrics p rest) q.after in
    let t = section_here (λ x. Unit {0}) of_byte 1 (λ c u. refl) (lyric_text p) (All-every _ (λ x. tt) (lyric_text p)) c.text_count rest y.after in
    record { measures = m; notes = n; pitches = q; lyrics_are = y; text = t }

-- THE STORE AFTER A CALL that read a text
parts_fours : (ed : Edition) (e : Env) (f : ℕ → List Item) (n q : ℕ) → All (λ (p : Part). Fours p.measures) (parts ed e f n q)
unfolding parts
parts_fours ed e f zero q = tt
parts_fours ed e f (suc n) q = (built_fours ed e (f q), parts_fours ed e f n (suc q))

same_reading : (ps qs : List Part) → reading ps ≡ reading qs → ps ≡ qs
same_reading ps qs e = cc

refused≢reading : (n l : ℕ) (ps : List Part) → refusal n l ≡ reading ps → ⊥
refused≢reading n l ps e = let z : ◌≡◌ {A = ℕ} 0 1 = cc in omega arith

-- what the store holds, and that each measure has its four voices
abbrev pub Holds : ℕ → Outcome → Type 0
Holds rl w = (ps : List Part) → w.verdict ≡ reading ps → All (λ (p : Part). Fours p.measures) ps × (w.reading ≡ encode ps ++ zeros (rl - length (encode ps)))

pub holds : (ed : Edition) (text : List ℕ) (rl sl : ℕ) → Holds rl (parse_abc ed text rl sl)
unfolding refused_with written
holds ed text rl sl =
    outcome_cases ed (Holds rl) text rl sl (λ n l h ps e. absurd (refused≢reading n l ps e)) (λ h ps e. absurd (refused≢reading 16 0 ps e))
    (λ t a h f len short ps e.
    let q : parts_after ed t a ≡ ps = same_reading (parts_after ed t a) ps e in
    (subst (All (λ (p : Part). Fours p.measures)) q (parts_fours ed t.env (λ p. items_of p a) (voice_count t) 0), ap (λ (qs : List Part). encode qs ++ zeros (rl - length (encode qs))) q))

-- AFTER A REFUSAL the store is zeros
abbrev pub Cleared : ℕ → Outcome → Type 0
Cleared rl w = (n l : ℕ) → w.verdict ≡ refusal n l → w.reading ≡ zeros rl

pub cleared : (ed : Edition) (text : List ℕ) (rl sl : ℕ) → Cleared rl (parse_abc ed text rl sl)
unfolding refused_with written
cleared ed text rl sl = outcome_cases ed (Cleared rl) text rl sl (λ n l h k m e. refl) (λ h k m e. refl) (λ t a h f len short n l e. absurd (refused≢reading n l (parts_after ed t a) (sym e)))
