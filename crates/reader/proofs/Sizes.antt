-- Every measure of a part has four voices, so a part's five sections have a length that its five counts give.
use Prim.Native.Nat.{ℕ, ◌+◌, ◌*◌}
use mathlib.Core.Path.{◌≡◌, refl, ap, ◌∙◌}
use mathlib.Core.Bool.{Bool, true, false, cond}
use mathlib.Core.Option.{Option, none, some}
use mathlib.Core.List.{List, [], ◌∷◌, ◌++◌, map, reverse}
use native.Mathlib.Omega.{arith}
use lib.ListN.{length, length-map, length-append}
use Rattle.laws.specs.Lists.{foldl, All, any, sum}
use Rattle.laws.specs.Bytes.{little, le32}
use Rattle.laws.proofs.Bools.{by_test}
use Rattle.laws.proofs.Numbers.{length_little}
use Rattle.laws.proofs.Lists.{foldl_holds, length_alter_at, All-on_first, All-every, All-reverse, concat_length}
use Rattle.standard.specs.Keys.{Key}
use Rattle.standard.specs.Bars.{Barline, normal, repeat_start, repeat_end, repeat_both, double, final}
use Rattle.standard.specs.Pitches.{Pitch}
use Rattle.standard.specs.Fields.{Meter}
use Rattle.editions.specs.declared.Edition.{Edition}
use Rattle.reader.specs.Token.{Token, space, overlay, quoted, broken, tuplet, slur, grace_open, grace_close, decoration, barline, volta, unit, meter, key, field, chord, rest, note, nothing, skipped, refused}
use Rattle.reader.specs.Tokens.{tokens}
use Rattle.reader.specs.Barlines.{left_of}
use Rattle.reader.specs.Scan.{Env, Item, voice_declared, reset, key_in_header, key_change, meter_change, lyric_line, music_line}
use Rattle.reader.specs.State.{PartState, Note, Measure, on_open, set_voice, voice_now, is_empty, new_measure, new_part, with_right}
use Rattle.reader.specs.Voltas.{starts, ends_at, close, closed}
use Rattle.reader.specs.Lyrics.{Syllable}
use Rattle.reader.specs.Answer.{is_music, built, part_bytes, encode}
use Rattle.reader.specs.Part.{Part, finished_measures, empty_part, on_broken, on_nothing, append, on_sound, left_set, ended, on_barline, hears, on_token, opened, line_begins, on_line, on_lyric, on_key, on_item, dropped, in_order, marked_by, marked, finished, build}
use Rattle.reader.specs.Records.{measure_width, note_width, pitch_width, lyric_width, section, sections, notes_of, pitches_of, lyrics, lyric_text, note_counts, key_mark_bytes, measure_bytes, note_bytes, pitch_bytes, lyric_bytes, signed16}

-- a measure with four voices
abbrev pub Four : Measure → Type 0
Four m = length m.voices ≡ 4

-- each measure
abbrev pub Fours : List Measure → Type 0
Fours ms = All Four ms

-- PIECES
-- a change of the open measure that keeps them
pub open_four : (f : Measure → Measure) → ((m : Measure) → Four m → Four (f m)) → (s : PartState) → Fours s.measures → Fours (on_open f s).measures
unfolding on_open
open_four f h s p = All-on_first Four f h s.measures p

-- the voice being written, with other notes
pub voice_four : (v : List Note) (s : PartState) → Fours s.measures → Fours (set_voice v s).measures
unfolding set_voice
voice_four v s p = open_four _ (λ m q. length_alter_at s.line.overlay (λ old. v) m.voices ∙ q) s p

-- TOKENS
-- a broken rhythm
broken_four : (up : Bool) (n : ℕ) (v : List Note) (s : PartState) → Fours s.measures → Fours (on_broken up n v s).measures
unfolding on_broken
broken_four up n [] s p = p
broken_four up n (x ∷ xs) s p = voice_four _ s p

-- an empty chord
nothing_four : (v : List Note) (s : PartState) → Fours s.measures → Fours (on_nothing v s).measures
unfolding on_nothing
nothing_four [] s p = p
nothing_four (x ∷ xs) s p = voice_four _ s p

-- a note more
append_four : (n : Note) (s : PartState) → Fours s.measures → Fours (append n s).measures
unfolding append
append_four n s p = voice_four _ s p

-- another left barline
left_four : (b : Barline) (m : Measure) → Four m → Four (left_set b m)
unfolding left_set
left_four normal m p = p
left_four repeat_start m p = p
left_four repeat_end m p = p
left_four repeat_both m p = p
left_four double m p = p
left_four final m p = p

-- a barline behind notes
opens_four : (o : Bool) (b : Barline) (t : Meter) (m : Measure) (ms : List Measure) → Four m → Fours ms → Fours (cond o (new_measure t (left_of b) ∷ with_right b m ∷ ms) (with_right b m ∷ ms))
unfolding new_measure
opens_four true b t m ms p q = (refl, (p, q))
opens_four false b t m ms p q = (p, q)

-- a barline
ended_four : (b : Barline) (o : Bool) (t : Meter) (ms : List Measure) → Fours ms → Fours (ended b o t ms)
unfolding ended
ended_four b o t [] p = tt
ended_four b o t (m ∷ ms) p = by_test (is_empty m) (λ e. rw (e, ended) (left_four b m p.0, p.1)) (λ e. rw (e, ended) (opens_four o b t m ms p.0 p.1))

-- any token
pub token_four : (s : PartState) (t : Token) → Fours s.measures → Fours (on_token s t).measures
unfolding on_token on_barline hears on_sound
token_four s space p = p
token_four s overlay p = p
token_four s quoted p = p
token_four s (broken up n) p = broken_four up n (voice_now s) s p
token_four s (tuplet t) p = p
token_four s slur p = p
token_four s grace_open p = p
token_four s grace_close p = p
token_four s decoration p = p
token_four s (barline b o) p = ended_four b o s.line.meter s.measures p
token_four s (volta ps) p = open_four _ (λ m q. q) s p
token_four s (unit u) p = p
token_four s (meter t) p = open_four _ (λ m q. q) _ p
token_four s (key k) p = open_four _ (λ m q. q) _ p
token_four s field p = p
token_four s (chord ws l b) p = append_four _ _ p
token_four s (rest k l) p = append_four _ s p
token_four s (note w l b) p = append_four _ _ p
token_four s nothing p = nothing_four (voice_now s) s p
token_four s skipped p = p
token_four s (refused n) p = p

-- ITEMS
-- the first measure of a part
pub opened_four : (t : Meter) (ms : List Measure) → Fours ms → Fours (opened t ms)
unfolding opened new_measure
opened_four t [] p = (refl, tt)
opened_four t (m ∷ ms) p = p

-- a music line
line_four : (ed : Edition) (u : ℕ) (t : Meter) (l : List ℕ) (s : PartState) → Fours s.measures → Fours (on_line ed u t l s).measures
unfolding on_line line_begins
line_four ed u t l s p = foldl_holds (λ (x : PartState). Fours x.measures) on_token token_four (line_begins u t s) (tokens ed 0 l) (opened_four t s.measures p)

-- a K line
key_four : (h k : Key) (ms : List Measure) (s : PartState) → Fours s.measures → Fours (on_key h k ms s).measures
unfolding on_key hears
key_four h k [] s p = p
key_four h k (m ∷ ms) s p = open_four _ (λ m q. q) _ p

-- any item
pub item_four : (ed : Edition) (h : Key) (s : PartState) (i : Item) → Fours s.measures → Fours (on_item ed h s i).measures
unfolding on_item on_lyric
item_four ed h s (voice_declared b) p = p
item_four ed h s reset p = p
item_four ed h s key_in_header p = p
item_four ed h s (key_change k) p = key_four h k s.measures s p
item_four ed h s (meter_change t) p = open_four _ (λ m q. q) s p
item_four ed h s (lyric_line b t) p = p
item_four ed h s (music_line u t l) p = line_four ed u t l s p

-- THE END
-- without the empty measures at the end
dropped_four : (ms : List Measure) → Fours ms → Fours (dropped ms)
unfolding dropped
dropped_four [] p = tt
dropped_four (m ∷ []) p = p
dropped_four (m ∷ n ∷ ms) p = let h : Fours (dropped (n ∷ ms)) = dropped_four (n ∷ ms) p.1 in by_test (is_empty m) (λ e. rw (e, dropped) h) (λ e. rw (e, dropped) p)

-- notes as written
order_four : (ms : List Measure) → Fours ms → Fours (map in_order ms)
unfolding in_order
order_four [] p = tt
order_four (m ∷ ms) p = (length-map m.voices reverse ∙ p.0, order_four ms p.1)

-- with closed voltas
close_four : (o : Option (List ℕ)) (ms : List Measure) → Fours ms → Fours (close o ms)
unfolding close
close_four o [] p = tt
close_four none (m ∷ ms) p =
    let h : Fours (close none ms) = close_four none ms p.1 in
    let k : Fours (close (some m.passes) ms) = close_four (some m.passes) ms p.1 in
    by_test (starts m)
    (λ e. rw (e, close) (by_test (ends_at m ms) (λ f. rw (f, close) (p.0, h)) (λ f. rw (f, close) (p.0, k))))
    (λ e. rw (e, close) (p.0, h))
close_four (some ps) (m ∷ ms) p =
    let h : Fours (close none ms) = close_four none ms p.1 in
    let k : Fours (close (some ps) ms) = close_four (some ps) ms p.1 in
    by_test (ends_at m ms) (λ f. rw (f, close) (p.0, h)) (λ f. rw (f, close) (p.0, k))

-- with a key mark
mark_four : (h : Key) (m : Measure) (k : Option Key) → Four m → Four (marked_by h m k)
unfolding marked_by
mark_four h m none p = p
mark_four h m (some k) p = p

-- with the first key mark
marked_four : (h : Key) (ms : List Measure) → Fours ms → Fours (marked h ms)
unfolding marked
marked_four h [] p = tt
marked_four h (m ∷ ms) p = (mark_four h m m.key p.0, p.1)

-- EVERY MEASURE OF EVERY PART HAS FOUR VOICES
pub four_voices : (ed : Edition) (header : Key) (items : List Item) → Fours (build ed header items).measures
unfolding build finished finished_measures closed new_part
four_voices ed header items =
    let s : PartState = foldl (on_item ed header) new_part items in
    let p : Fours s.measures = foldl_holds (λ (x : PartState). Fours x.measures) (on_item ed header) (item_four ed header) new_part items tt in
    let r = reverse (dropped s.measures) in
    marked_four header (close none (map in_order r)) (close_four none (map in_order r) (order_four r (All-reverse Four (dropped s.measures) (dropped_four s.measures p))))

-- THE LENGTH OF A PART'S SECTIONS
-- a measure by its voices and its key mark
with_both : List (List Note) → Option Key → Measure → Measure
with_both vs k m = record { voices = vs; left = m.left; right = m.right; meter = m.meter; key = k; volta = m.volta; passes = m.passes }

-- its bytes
both_bytes : (vs : List (List Note)) (k : Option Key) (m : Measure) → length vs ≡ 4 → length (measure_bytes (with_both vs k m)) ≡ measure_width
unfolding measure_bytes note_counts key_mark_bytes with_both little
both_bytes [] k m e = absurd (let z : ◌≡◌ {A = ℕ} 0 4 = e in omega arith)
both_bytes (a ∷ []) k m e = absurd (let z : ◌≡◌ {A = ℕ} 1 4 = e in omega arith)
both_bytes (a ∷ b ∷ []) k m e = absurd (let z : ◌≡◌ {A = ℕ} 2 4 = e in omega arith)
both_bytes (a ∷ b ∷ c ∷ []) k m e = absurd (let z : ◌≡◌ {A = ℕ} 3 4 = e in omega arith)
both_bytes (a ∷ b ∷ c ∷ d ∷ []) none m e = refl
both_bytes (a ∷ b ∷ c ∷ d ∷ []) (some k) m e = refl
both_bytes (a ∷ b ∷ c ∷ d ∷ x ∷ xs) k m e = absurd (omega (arith, e))

-- a measure of four voices is as wide as its record
pub measure_bytes_lem : (m : Measure) → Four m → length (measure_bytes m) ≡ measure_width
unfolding with_both
measure_bytes_lem m p = both_bytes m.voices m.key m p

-- a section: its count, and its records
section_length {ℓ} : {A : Type ℓ} (P : A → Type 0) (f : A → List ℕ) (n : ℕ) → ((x : A) → P x → length (f x) ≡ n) → (xs : List A) → All P xs → length (section f xs) ≡ 4 + n * length xs
unfolding section little
section_length P f n h xs p = omega (arith, concat_length P f n h xs p)

-- a note is as wide as its record
pub note_bytes_lem : (x : ℕ × Note) → Unit {0} → length (note_bytes x.1) ≡ note_width
unfolding note_bytes little
note_bytes_lem x u = refl

-- a pitch
pub pitch_bytes_lem : (x : Pitch) → Unit {0} → length (pitch_bytes x) ≡ pitch_width
unfolding pitch_bytes signed16
pitch_bytes_lem x u = refl

-- a lyric
pub lyric_bytes_lem : (x : ℕ × Syllable) → Unit {0} → length (lyric_bytes x.0 x.1) ≡ lyric_width
unfolding lyric_bytes little
lyric_bytes_lem x u = refl

-- five lists of known lengths, one after the other
five_lengths : (a b c d e : List ℕ) (i j k l m : ℕ) → length a ≡ 4 + i → length b ≡ 4 + j → length c ≡ 4 + k → length d ≡ 4 + l → length e ≡ 4 + m
    → length (a ++ b ++ c ++ d ++ e) ≡ 20 + i + j + k + l + m
five_lengths a b c d e i j k l m p q r s t =
    omega (arith, length-append (a ++ b ++ c ++ d) e, length-append (a ++ b ++ c) d, length-append (a ++ b) c, length-append a b)

-- the length of a part's sections: five counts of 4 bytes, so many bytes for each record, and the text
pub sections_length : (p : Part) → Fours p.measures
    → length (sections p) ≡ 20 + measure_width * length p.measures + note_width * length (notes_of p) + pitch_width * length (pitches_of p) + lyric_width * length (lyrics p) + length (lyric_text p)
unfolding sections
sections_length p h =
    let fm = measure_bytes in
    let fn : ℕ × Note → List ℕ = λ x. note_bytes x.1 in
    let fy : ℕ × Syllable → List ℕ = λ x. lyric_bytes x.0 x.1 in
    let ft : ℕ → List ℕ = λ c. c ∷ [] in
    let t : length (section ft (lyric_text p)) ≡ 4 + 1 * length (lyric_text p) = section_length (λ c. Unit {0}) ft 1 (λ c u. refl) (lyric_text p) (All-every _ (λ x. tt) (lyric_text p)) in
    five_lengths (section fm p.measures) (section fn (notes_of p)) (section pitch_bytes (pitches_of p)) (section fy (lyrics p)) (section ft (lyric_text p))
    (measure_width * length p.measures) (note_width * length (notes_of p)) (pitch_width * length (pitches_of p)) (lyric_width * length (lyrics p)) (length (lyric_text p))
    (section_length Four fm measure_width measure_bytes_lem p.measures h)
    (section_length (λ x. Unit {0}) fn note_width note_bytes_lem (notes_of p) (All-every _ (λ x. tt) (notes_of p)))
    (section_length (λ x. Unit {0}) pitch_bytes pitch_width pitch_bytes_lem (pitches_of p) (All-every _ (λ x. tt) (pitches_of p)))
    (section_length (λ x. Unit {0}) fy lyric_width lyric_bytes_lem (lyrics p) (All-every _ (λ x. tt) (lyrics p)))
    (omega (arith, t))

-- THE LENGTH OF A READING
-- of its parts, one after the other
pub parts_length : (ps : List Part) → length (part_bytes ps) ≡ sum (λ (p : Part). length (sections p)) ps
unfolding part_bytes
parts_length [] = refl
parts_length (p ∷ ps) = length-append (sections p) (part_bytes ps) ∙ ap (λ (n : ℕ). length (sections p) + n) (parts_length ps)

-- with the count of parts
pub encode_length : (ps : List Part) → length (encode ps) ≡ 4 + sum (λ (p : Part). length (sections p)) ps
unfolding encode
encode_length ps = omega (arith, length-append (le32 (length ps)) (part_bytes ps), length_little 4 (length ps), parts_length ps)

-- every part of a reading has measures of four voices
pub built_fours : (ed : Edition) (e : Env) (is : List Item) → Fours (built ed e is).measures
unfolding built empty_part
built_fours ed e is = by_test (any is_music is) (λ m. rw m (four_voices ed e.header_key is)) (λ m. rw m tt)
