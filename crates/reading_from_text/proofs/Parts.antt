-- A PART THAT WAS READ is whole where it is written: its records in their ranges, its sums its counts, its voltas closed.
use Prim.Native.Nat.{ℕ, suc, ◌+◌, ◌≤◌, ◌<◌}
use mathlib.Core.Path.{◌≡◌, refl, sym, ap, ◌∙◌}
use mathlib.Core.Bool.{true}
use mathlib.Core.List.{List, [], ◌∷◌, map}
use native.Mathlib.Omega.{arith}
use lib.ListN.{length, length-append}
use borrow.Author.Tests.{le-leb, eq-eqb}
use Rattle.laws.specs.Lists.{All, concat, sum}
use Rattle.laws.specs.Bytes.{u32_at}
use Rattle.laws.proofs.Bools.{and_both}
use Rattle.laws.proofs.Lists.{length_concat, sum_map}
use Rattle.reader.specs.State.{Note, Measure}
use Rattle.reader.specs.Lyrics.{Syllable}
use Rattle.reader.specs.Part.{Part}
use Rattle.reader.specs.Records.{measure_width, note_width, pitch_width, lyric_width, measure_bytes, pitch_bytes, tagged, by_voice, all_notes, notes_of, pitches_of, lyrics, lyric_text}
use Rattle.reader.proofs.Sizes.{Four, Fours, measure_bytes_lem, note_bytes_lem, pitch_bytes_lem, lyric_bytes_lem}
use Rattle.bounds.specs.Ranges.{NoteFits, PitchFits, SyllableFits, PartFits, FourBytes, CountsFit}
use Rattle.bounds.proofs.RecordBytes.{notes_fit, pitches_fit, lyrics_fit}
use Rattle.bounds.proofs.FourBytes.{tagged_length}
use Rattle.reading_records.specs.Fields.{pitches_field, text_field}
use Rattle.reading_sections.specs.Sections.{notes_at, pitches_at, lyrics_at, text_at, part_end, record_at, notes_in}
use Rattle.reading_sections.proofs.Encoded.{PartHere, of_note, of_lyric}
use Rattle.reading_whole.specs.Whole.{every, total, is_measure, is_note, is_pitch, is_lyric, is_closed, are_measures, are_notes, are_pitches, are_lyrics, is_part}
use Rattle.reading_from_text.proofs.Records.{All-both, section_pass, section_sum, section_voltas}
use Rattle.reading_from_text.proofs.Fields.{measure_whole, measure_volta, measure_notes, note_whole, note_pitches, pitch_whole, lyric_whole, lyric_text_lem}
use Rattle.reading_from_text.proofs.Voltas.{voltas_fine}

-- SUMS: the notes of all voices are the part's notes
voices_notes : (v : ℕ) (vs : List (List Note)) → length (by_voice v vs) ≡ sum length vs
unfolding by_voice
voices_notes v [] = refl
voices_notes v (ns ∷ vs) = omega (arith, length-append (tagged v ns) (by_voice (suc v) vs), tagged_length v ns, voices_notes (suc v) vs)

measures_notes : (ms : List Measure) → sum (λ (m : Measure). sum length m.voices) ms ≡ length (all_notes ms)
unfolding all_notes
measures_notes [] = refl
measures_notes (m ∷ ms) = omega (arith, length-append (by_voice 0 m.voices) (all_notes ms), voices_notes 0 m.voices, measures_notes ms)

-- pieces are together as long as each by itself
pieces_length {ℓ κ} : {A : Type ℓ} {B : Type κ} (f : A → List B) (xs : List A) → sum (λ x. length (f x)) xs ≡ length (concat (map f xs))
pieces_length f xs = sym (length_concat (map f xs) ∙ sum_map f length xs)

module _ {s : List ℕ} {at : ℕ} (p : Part) (four : Fours p.measures) (fits : PartFits p) (counts : CountsFit p) (rest : List ℕ) (h : PartHere s at p rest) where
  measures_whole : are_measures s at ≡ true
  unfolding are_measures is_closed notes_of
  measures_whole =
      let ms = p.measures in
      let small : Measure → Type 0 = λ m. All (λ (v : List Note). FourBytes (length v)) m.voices in
      let n : total (λ i. notes_in s (record_at measure_width at i)) (u32_at s at) ≡ u32_at s (notes_at s at) =
      section_sum (λ m. Four m × small m) measure_bytes measure_width (λ m f. measure_bytes_lem m f.0) s (notes_in s) (λ m. sum length m.voices) (measure_notes s) ms (All-both Four small ms four counts.voice_counts) h.measures
      ∙ measures_notes ms ∙ sym h.notes.count in
      and_both _ _
      (and_both _ _ (section_pass Four measure_bytes measure_width measure_bytes_lem s (is_measure s) (measure_whole s) ms four h.measures)
      (ap is_closed (section_voltas Four measure_bytes_lem s (measure_volta s) ms four h.measures ∙ voltas_fine ms fits.voltas_fit)))
      (eq-eqb _ _ n)

  notes_whole : are_notes s at ≡ true
  unfolding are_notes notes_of pitches_of
  notes_whole =
      let ns = all_notes p.measures in
      let n : total (λ i. u32_at s (record_at note_width (notes_at s at) i + pitches_field)) (u32_at s (notes_at s at)) ≡ u32_at s (pitches_at s at) =
      section_sum (λ (x : ℕ × Note). FourBytes (length x.1.pitches)) of_note note_width (λ x f. note_bytes_lem x tt) s (λ r. u32_at s (r + pitches_field)) (λ x. length x.1.pitches) (note_pitches s) ns counts.pitch_counts h.notes
      ∙ pieces_length (λ (x : ℕ × Note). x.1.pitches) ns ∙ sym h.pitches.count in
      and_both _ _
      (section_pass (λ (x : ℕ × Note). NoteFits x.1) of_note note_width (λ x f. note_bytes_lem x tt) s (is_note s) (note_whole s) ns (notes_fit p.measures fits.measures_fit) h.notes)
      (eq-eqb _ _ n)

  pitches_whole : are_pitches s at ≡ true
  unfolding are_pitches notes_of pitches_of
  pitches_whole =
      section_pass PitchFits pitch_bytes pitch_width (λ x f. pitch_bytes_lem x tt) s (is_pitch s) (pitch_whole s) (pitches_of p) (pitches_fit (notes_of p) (notes_fit p.measures fits.measures_fit)) h.pitches

  lyrics_whole : are_lyrics s at ≡ true
  unfolding are_lyrics lyrics lyric_text
  lyrics_whole =
      let ns = notes_of p in
      let ys = lyrics p in
      let l = lyrics_at s at in
      let inside : ℕ × Syllable → Type 0 = λ x. x.0 < length ns in
      let fit : ℕ × Syllable → Type 0 = λ x. SyllableFits x.1 in
      let t : every (λ i. is_lyric s (u32_at s (notes_at s at)) (record_at lyric_width l i)) (u32_at s l) ≡ true =
      ap (λ (n : ℕ). every (λ i. is_lyric s n (record_at lyric_width l i)) (u32_at s l)) h.notes.count
      ∙ section_pass (λ x. inside x × fit x) of_lyric lyric_width (λ x f. lyric_bytes_lem x tt) s (is_lyric s (length ns)) (lyric_whole s (length ns) counts.notes_count) ys
      (All-both inside fit ys counts.indexes (lyrics_fit 0 ns p.words fits.words_fit)) h.lyrics_are in
      let n : total (λ i. u32_at s (record_at lyric_width l i + text_field)) (u32_at s l) ≡ u32_at s (text_at s at) =
      section_sum (λ (x : ℕ × Syllable). FourBytes (length x.1.text)) of_lyric lyric_width (λ x f. lyric_bytes_lem x tt) s (λ r. u32_at s (r + text_field)) (λ x. length x.1.text) (lyric_text_lem s) ys counts.text_counts h.lyrics_are
      ∙ pieces_length (λ (x : ℕ × Syllable). x.1.text) ys ∙ sym h.text.count in
      and_both _ _ t (eq-eqb _ _ n)

  -- the part, which ends where the rest begins
  pub part_whole : is_part s at ≡ true
  unfolding is_part part_end
  part_whole =
      let end : part_end s at ≤ length s = omega (arith, h.text.after.fits) in
      and_both _ _ (and_both _ _ (and_both _ _ (and_both _ _ (le-leb (part_end s at) (length s) end) measures_whole) notes_whole) pitches_whole) lyrics_whole
