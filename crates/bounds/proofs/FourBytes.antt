-- Every number that a reading writes in four bytes is below 2^32, so the four bytes say the number itself.
use Prim.Native.Nat.{ℕ, zero, suc, ◌+◌, ◌-◌, ◌*◌, ◌^◌, ◌≤◌, ◌<◌}
use mathlib.Core.Path.{◌≡◌, subst}
use mathlib.Core.List.{List, [], ◌∷◌, map}
use native.Mathlib.Nat.{pow-suc, pow-le-pow_right}
use native.Mathlib.Omega.{arith}
use lib.Dec.{lit<, lit≤}
use lib.ListN.{length, length-append, length-map}
use Rattle.laws.specs.Lists.{All, concat}
use Rattle.laws.specs.Bytes.{le32, u32_at}
use Rattle.laws.proofs.Bools.{by_test}
use Rattle.laws.proofs.Lists.{All-map, All-append}
use Rattle.laws.proofs.Numbers.{little_at_little}
use Rattle.editions.specs.declared.Edition.{Edition}
use Rattle.reader.specs.Steps.{items_of}
use Rattle.reader.specs.Scan.{Env, Items}
use Rattle.reader.specs.State.{Note, Measure}
use Rattle.reader.specs.Lyrics.{Syllable}
use Rattle.reader.specs.Part.{Part}
use Rattle.reader.specs.Records.{pass_bits, tagged, by_voice, all_notes, is_sung, lyrics_of, notes_of, pitches_of, lyrics, lyric_text, sections}
use Rattle.reader.specs.Answer.{Verdict, refusal, reading, refused_with, built, parts, part_bytes, encode, written, parse_abc}
use Rattle.reader.proofs.Sizes.{Fours, built_fours, sections_length}
use Rattle.bounds.specs.Ranges.{PassesFit, MeasureFits, PartFits, FourBytes, CountsFit}
use Rattle.bounds.proofs.ScanWeights.{voice_count}
use Rattle.bounds.proofs.Reading.{parts_after, parts_fit, parts_most, outcome_cases}

-- PASSES: one bit for each, so below 2^32
passes_small : (low : ℕ) (ps : List ℕ) → low ≤ 32 → PassesFit low ps → pass_bits ps + 2 ^ low ≤ 2 ^ 32
unfolding pass_bits PassesFit
passes_small low [] l h = omega (arith, pow-le-pow_right {n = 2} (lit< tt) l)
passes_small low (p ∷ ps) l h =
    let q : suc (p - 1) ≡ p = omega (arith, h.0) in
    let d : 2 ^ p ≡ 2 ^ (p - 1) * 2 = rw q at (pow-suc 2 (p - 1)) in
    let m : low ≤ p - 1 = omega (arith, h.0) in
    omega (arith, passes_small p ps h.1.0 h.1.1, d, pow-le-pow_right {n = 2} (lit< tt) m)

-- those of a measure
pub pass_bits_small : (ps : List ℕ) → PassesFit 0 ps → pass_bits ps < 2 ^ 32
pass_bits_small ps h = omega (arith, passes_small 0 ps (lit≤ tt) h)

-- A PART OF n NOTES has no voice with more
pub tagged_length : (v : ℕ) (ns : List Note) → length (tagged v ns) ≡ length ns
unfolding tagged
tagged_length v ns = length-map ns (λ n. (v, n))

-- no voice of a measure
voice_most : (v : ℕ) (vs : List (List Note)) (k : ℕ) → length (by_voice v vs) ≤ k → All (λ (ns : List Note). length ns ≤ k) vs
unfolding by_voice
voice_most v [] k h = tt
voice_most v (ns ∷ vs) k h =
    let e = length-append (tagged v ns) (by_voice (suc v) vs) in
    (omega (arith, e, tagged_length v ns), voice_most (suc v) vs k (omega (arith, e)))

-- nor of any measure
voices_most : (ms : List Measure) (k : ℕ) → length (all_notes ms) ≤ k → All (λ (m : Measure). All (λ (v : List Note). length v ≤ k) m.voices) ms
unfolding all_notes
voices_most [] k h = tt
voices_most (m ∷ ms) k h =
    let e = length-append (by_voice 0 m.voices) (all_notes ms) in
    (voice_most 0 m.voices k (omega (arith, e)), voices_most ms k (omega (arith, e)))

-- of pieces that are k long together none is longer
pieces_most {ℓ κ} : {A : Type ℓ} {B : Type κ} (f : A → List B) (xs : List A) (k : ℕ) → length (concat (map f xs)) ≤ k → All (λ x. length (f x) ≤ k) xs
pieces_most f [] k h = tt
pieces_most f (x ∷ xs) k h =
    let e = length-append (f x) (concat (map f xs)) in
    (omega (arith, e), pieces_most f xs k (omega (arith, e)))

-- a lyric's index is one of the notes
placed_below : (i k : ℕ) (w : List Syllable) → i < k → All (λ (x : ℕ × Syllable). x.0 < k) (map (λ y. (i, y)) w)
placed_below i k [] h = tt
placed_below i k (y ∷ w) h = (h, placed_below i k w h)

-- each index is below the number of notes
index_below : (i k : ℕ) (xs : List (ℕ × Note)) (ws : List (List Syllable)) → i + length xs ≤ k → All (λ (x : ℕ × Syllable). x.0 < k) (lyrics_of i xs ws)
unfolding lyrics_of
index_below i k [] ws h = tt
index_below i k (x ∷ xs) [] h = tt
index_below i k (x ∷ xs) (w ∷ ws) h =
    by_test (is_sung x)
    (λ e. rw (e, lyrics_of) (All-append _ (map (λ y. (i, y)) w) (lyrics_of (suc i) xs ws) (placed_below i k w (omega arith)) (index_below (suc i) k xs ws (omega arith))))
    (λ e. rw (e, lyrics_of) (index_below (suc i) k xs (w ∷ ws) (omega arith)))

-- THE COUNTS OF A PART whose sections are shorter than 2^32
pub counts_fit : (p : Part) → Fours p.measures → PartFits p → length (sections p) < 2 ^ 32 → CountsFit p
unfolding notes_of pitches_of lyrics lyric_text
counts_fit p f h l =
    let e = sections_length p f in
    let ns = all_notes p.measures in
    let ys = lyrics_of 0 ns p.words in
    let n : length ns < 2 ^ 32 = omega (arith, e, l) in
    let c : length (concat (map (λ (x : ℕ × Note). x.1.pitches) ns)) < 2 ^ 32 = omega (arith, e, l) in
    let t : length (concat (map (λ (x : ℕ × Syllable). x.1.text) ys)) < 2 ^ 32 = omega (arith, e, l) in
    record {
      measures_count = omega (arith, e, l);
      notes_count = n;
      pitches_count = c;
      lyrics_count = omega (arith, e, l);
      text_count = t;
      voice_counts = All-map _ _ (λ m. All-map _ _ (λ v k. omega (arith, k, n)) m.voices) p.measures (voices_most p.measures (length ns) (omega arith));
      pass_bits_lem = All-map MeasureFits _ (λ m k. pass_bits_small m.passes k.passes_fit) p.measures h.measures_fit;
      pitch_counts = All-map _ _ (λ x k. omega (arith, k, c)) ns (pieces_most (λ (x : ℕ × Note). x.1.pitches) ns (length (concat (map (λ (x : ℕ × Note). x.1.pitches) ns))) (omega arith));
      indexes = index_below 0 (length ns) ns p.words (omega arith);
      text_counts = All-map _ _ (λ x k. omega (arith, k, t)) ys (pieces_most (λ (x : ℕ × Syllable). x.1.text) ys (length (concat (map (λ (x : ℕ × Syllable). x.1.text) ys))) (omega arith));
    }

-- THE PARTS OF A READING
-- the counts of each part
parts_counts : (ed : Edition) (e : Env) (a : Items) (n q : ℕ) → All PartFits (parts ed e (λ p. items_of p a) n q) → length (part_bytes (parts ed e (λ p. items_of p a) n q)) < 2 ^ 32 → All CountsFit (parts ed e (λ p. items_of p a) n q)
unfolding parts part_bytes
parts_counts ed e a zero q f h = tt
parts_counts ed e a (suc n) q f h =
    let p = built ed e (items_of q a) in
    let ps = parts ed e (λ p. items_of p a) n (suc q) in
    let l = length-append (sections p) (part_bytes ps) in
    (counts_fit p (built_fours ed e (items_of q a)) f.0 (omega (arith, l, h)), parts_counts ed e a n (suc q) f.1 (omega (arith, l, h)))

-- a verdict that has them
unfoldable Counted : Verdict → Type 0
Counted (refusal n l) = Unit {0}
Counted (reading ps) = (length ps ≤ 32) × All CountsFit ps

-- every verdict
verdict_counted : (ed : Edition) (text : List ℕ) (rl sl : ℕ) → Counted (parse_abc ed text rl sl).verdict
unfolding refused_with written Counted encode
verdict_counted ed text rl sl =
    outcome_cases ed (λ o. Counted o.verdict) text rl sl (λ n l h. tt) (λ h. tt)
    (λ t a h f len short.
    let ps = parts_after ed t a in
    (parts_most ed t a h, parts_counts ed t.env a (voice_count t) 0 (parts_fit ed t.env a (voice_count t) 0 f) (omega (arith, len, short, length-append (le32 (length ps)) (part_bytes ps)))))

-- EVERY COUNT OF A READING: 32 parts at most, and every number that has four bytes is below 2^32
pub reading_counts : (ed : Edition) (text : List ℕ) (rl sl : ℕ) (ps : List Part) → (parse_abc ed text rl sl).verdict ≡ reading ps → (length ps ≤ 32) × All CountsFit ps
unfolding Counted
reading_counts ed text rl sl ps e = subst Counted e (verdict_counted ed text rl sl)

-- so four bytes say the number itself
pub says_itself : (n : ℕ) → FourBytes n → u32_at (le32 n) 0 ≡ n
says_itself n h = little_at_little 4 n h
