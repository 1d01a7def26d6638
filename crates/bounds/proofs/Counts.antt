-- The counts of a part's five sections by its weights, and the length of its sections by its lines' bytes.
use Prim.Native.Nat.{ℕ, suc, ◌+◌, ◌-◌, ◌*◌, ◌≤◌}
use mathlib.Core.Path.{◌≡◌, refl, ap}
use mathlib.Core.List.{List, [], ◌∷◌, map}
use native.Mathlib.Nat.{mul-add, mul-suc}
use native.Mathlib.Omega.{arith}
use lib.Dec.{lit≤}
use lib.ListN.{length, length-append}
use Rattle.laws.specs.Lists.{sum, any, concat}
use Rattle.laws.proofs.Bools.{by_test}
use Rattle.laws.proofs.Lists.{sum_append, sum_map, sum_both}
use Rattle.standard.specs.Keys.{Key}
use Rattle.editions.specs.declared.Edition.{Edition}
use Rattle.reader.specs.Scan.{Item, Env}
use Rattle.reader.specs.State.{Note, Measure}
use Rattle.reader.specs.Lyrics.{Syllable}
use Rattle.reader.specs.Part.{Part, build, empty_part}
use Rattle.reader.specs.Records.{tagged, by_voice, all_notes, notes_of, pitches_of, lyrics, lyric_text, sections}
use Rattle.reader.specs.Answer.{is_music, built}
use Rattle.reader.specs.All.{all as everything}
use Rattle.reader.proofs.Sizes.{four_voices, sections_length}
use Rattle.bounds.specs.Weights.{Weights, Covered, section_weights, note_weight, voice_weight, measure_weight, measures_weight, syllable_weight, music_bytes, lyric_bytes, item_bytes}
use Rattle.bounds.proofs.PartWeights.{part_weight}
use Rattle.bounds.proofs.LyricWeights.{words_weight_lem, lyrics_weight}

module _ (ed : Edition) (p : Weights) where
  -- a note with the number of its voice
  abbrev one_weight : ℕ × Note → ℕ
  one_weight x = note_weight p x.1

  -- the notes of a measure, voice by voice
  voices_weight : (v : ℕ) (vs : List (List Note)) → sum one_weight (by_voice v vs) ≡ sum (voice_weight p) vs
  unfolding by_voice tagged
  voices_weight v [] = refl
  voices_weight v (ns ∷ vs) = omega (arith, sum_append one_weight (map (λ n. (v, n)) ns) (by_voice (suc v) vs), sum_map (λ (n : Note). (v, n)) one_weight ns, voices_weight (suc v) vs)

  -- measures, and notes with their pitches
  notes_weight : (ms : List Measure) → measures_weight p ms ≡ p.measure * length ms + sum one_weight (all_notes ms)
  unfolding all_notes measure_weight
  notes_weight [] = omega arith
  notes_weight (m ∷ ms) =
      omega (arith, sum_append one_weight (by_voice 0 m.voices) (all_notes ms), voices_weight 0 m.voices, notes_weight ms, mul-suc p.measure (length ms))

  -- notes, and pitches
  pitches_weight : (xs : List (ℕ × Note)) → sum one_weight xs ≡ p.note * length xs + p.pitch * length (concat (map (λ (x : ℕ × Note). x.1.pitches) xs))
  unfolding note_weight
  pitches_weight [] = omega arith
  pitches_weight (x ∷ xs) =
      let r = concat (map (λ (x : ℕ × Note). x.1.pitches) xs) in
      omega (arith, pitches_weight xs, mul-suc p.note (length xs), length-append x.1.pitches r, mul-add p.pitch (length x.1.pitches) (length r), ap (λ (n : ℕ). p.pitch * n) (length-append x.1.pitches r))

  -- THE MEASURES' WEIGHT by the counts of the first three sections
  pub counts_weight : (q : Part) → measures_weight p q.measures ≡ p.measure * length q.measures + p.note * length (notes_of q) + p.pitch * length (pitches_of q)
  unfolding notes_of pitches_of
  counts_weight q = omega (arith, notes_weight q.measures, pitches_weight (all_notes q.measures))

  -- syllables, and their text
  texts_weight : (ys : List (ℕ × Syllable)) → sum (λ (x : ℕ × Syllable). syllable_weight p x.1) ys ≡ p.syllable * length ys + p.text * length (concat (map (λ (x : ℕ × Syllable). x.1.text) ys))
  unfolding syllable_weight
  texts_weight [] = omega arith
  texts_weight (y ∷ ys) =
      let r = concat (map (λ (x : ℕ × Syllable). x.1.text) ys) in
      omega (arith, texts_weight ys, mul-suc p.syllable (length ys), mul-add p.text (length y.1.text) (length r), ap (λ (n : ℕ). p.text * n) (length-append y.1.text r))

  -- THE SYLLABLES' WEIGHT by the counts of the last two
  pub lyric_counts : (q : Part) → sum (λ (x : ℕ × Syllable). syllable_weight p x.1) (lyrics q) ≡ p.syllable * length (lyrics q) + p.text * length (lyric_text q)
  unfolding lyric_text
  lyric_counts q = texts_weight (lyrics q)

  -- A PART BY ITS LINES' BYTES: its music, and its lyrics
  pub music_bound : Covered p → (header : Key) (is : List Item)
      → p.measure * length (build ed header is).measures + p.note * length (notes_of (build ed header is)) + p.pitch * length (pitches_of (build ed header is)) ≤ p.measure + p.byte * sum music_bytes is
  music_bound enough header is = omega (arith, part_weight ed p enough header is, counts_weight (build ed header is))

  -- its lyrics
  pub lyric_bound : Covered p → (header : Key) (is : List Item)
      → p.syllable * length (lyrics (build ed header is)) + p.text * length (lyric_text (build ed header is)) ≤ p.byte * sum lyric_bytes is
  unfolding lyrics
  lyric_bound enough header is =
      let q = build ed header is in
      omega (arith, words_weight_lem ed p enough header is, lyrics_weight ed p 0 (notes_of q) q.words, lyric_counts q)

-- THE SECTIONS OF A PART: 20 bytes of counts, its first measure, and 23 bytes for each byte of its lines
section_covered : Covered section_weights
section_covered = record { notes = lit≤ tt; measures = lit≤ tt; accidentals = lit≤ tt; syllables = lit≤ tt }

-- the bytes of its lines: of music and of lyrics
pub bytes_sum : (is : List Item) → sum item_bytes is ≡ sum music_bytes is + sum lyric_bytes is
unfolding item_bytes
bytes_sum is = sum_both music_bytes lyric_bytes is

-- so long at most
pub sections_bound : (ed : Edition) (header : Key) (is : List Item) → length (sections (build ed header is)) ≤ 48 + 23 * sum item_bytes is
sections_bound ed header is =
    omega (arith, sections_length (build ed header is) (four_voices ed header is), music_bound ed section_weights section_covered header is, lyric_bound ed section_weights section_covered header is, bytes_sum is)

-- an empty part has its counts alone
pub empty_length : length (sections empty_part) ≡ 20
unfolding everything
empty_length = refl

-- any part
pub built_bound : (ed : Edition) (e : Env) (is : List Item) → length (sections (built ed e is)) ≤ 48 + 23 * sum item_bytes is
unfolding built
built_bound ed e is =
    by_test (any is_music is) (λ m. rw (m, built) (sections_bound ed e.header_key is)) (λ m. rw (m, built) (omega (arith, empty_length)))
