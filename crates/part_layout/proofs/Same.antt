-- THE SAME SECTIONS: a part laid out as the code keeps it, and the plain one.
use Prim.Native.Nat.{ℕ, zero, suc, ◌+◌, ◌<◌}
use mathlib.Core.Path.{◌≡◌, refl, sym, ap, ◌∙◌}
use mathlib.Core.Bool.{Bool, true}
use mathlib.Core.List.{List, [], ◌∷◌, ◌++◌, map, reverse, append-nil, append_assoc}
use native.Mathlib.Omega.{arith}
use lib.Dec.{eqb}
use lib.ListN.{length, get_or, replicate, length-map}
use lib.Seq.{take_at, drop_at}
use borrow.Author.Tests.{eqb-true}
use Rattle.laws.specs.Lists.{foldl, All, concat, filter}
use Rattle.laws.specs.Bytes.{le32}
use Rattle.laws.proofs.Bools.{by_test}
use Rattle.laws.proofs.Lists.{map_append, map_map, map_agree, filter_snoc_yes, filter_snoc_no}
use Rattle.standard.specs.Keys.{Key}
use Rattle.standard.specs.Notes.{is_sounded}
use Rattle.editions.specs.declared.Edition.{Edition}
use Rattle.reader.specs.Scan.{Item}
use Rattle.reader.specs.State.{Note, PartState, new_part}
use Rattle.reader.specs.Lyrics.{Syllable, sung_by, sung_in}
use Rattle.reader.specs.Part
use Rattle.reader.specs.Part.{in_order, sounded_in}
use Rattle.reader.specs.Codes.{barline_code, volta_code}
use Rattle.reader.specs.Records
use Rattle.reader.specs.Records.{key_mark_bytes, pass_bits, note_counts, measure_bytes, note_bytes, pitch_bytes, lyric_bytes, lyrics_of, section, tagged, all_notes, is_sung}
use Rattle.part_layout.specs.Log.{LogState, new_log, notes_in}
use Rattle.part_layout.specs.Ends
use Rattle.part_layout.specs.Sections
use Rattle.part_layout.specs.Sections.{head_bytes, of_voice}
use Rattle.part_layout.proofs.Back.{back, length_back, reverse_back, length_reverse}
use Rattle.part_layout.proofs.Voices.{voice}
use Rattle.part_layout.proofs.Bars.{Bar, head_of, Below}
use Rattle.part_layout.proofs.Closing.{chunk, final_of, Final, sim_final}
use Rattle.part_layout.proofs.Reading.{sim_items}

-- MEASURES
-- a head's bytes are its measure's
bytes_same : (b : Bar) → head_bytes (head_of b) ≡ measure_bytes (final_of b)
unfolding head_bytes measure_bytes note_counts in_order
bytes_same b =
    let n : ℕ → ℕ = λ v. length (voice v b.notes) in
    let e : (v : ℕ) → n v ≡ length (reverse (voice v b.notes)) = λ v. sym (length_reverse (voice v b.notes)) in
    λ i. (le32 (e 0 i) ++ (le32 (e 1 i) ++ (le32 (e 2 i) ++ (le32 (e 3 i) ++ []))))
    ++ (barline_code b.left ∷ barline_code b.right ∷ b.meter.0 ∷ b.meter.1 ∷ [])
    ++ key_mark_bytes b.key
    ++ (volta_code b.volta ∷ get_or b.passes 0 0 ∷ le32 (pass_bits b.passes))

-- a section of two views of the same things
section_same : {A B C : Type 0} (f : A → List ℕ) (g : B → List ℕ) (h : C → A) (m : C → B) → ((x : C) → f (h x) ≡ g (m x)) → (xs : List C)
    → section f (map h xs) ≡ section g (map m xs)
unfolding section
section_same f g h m e xs =
    λ i. le32 ((length-map xs h ∙ sym (length-map xs m)) i)
    ++ concat ((map_map h f xs ∙ map_agree (λ x. f (h x)) (λ x. g (m x)) xs e ∙ sym (map_map m g xs)) i)

-- NOTES
-- how many a measure has: those of its four voices
pub count_voices : (xs : List (ℕ × Note)) → All (λ (x : ℕ × Note). x.0 < 4) xs
    → length (voice 0 xs) + (length (voice 1 xs) + (length (voice 2 xs) + (length (voice 3 xs) + 0))) ≡ length xs
count_voices [] h = refl
count_voices ((zero, n) ∷ xs) h = omega (arith, count_voices xs h.1)
count_voices ((suc zero, n) ∷ xs) h = omega (arith, count_voices xs h.1)
count_voices ((suc (suc zero), n) ∷ xs) h = omega (arith, count_voices xs h.1)
count_voices ((suc (suc (suc zero)), n) ∷ xs) h = omega (arith, count_voices xs h.1)
count_voices ((suc (suc (suc (suc m))), n) ∷ xs) h = absurd (omega (arith, h.0))

-- by its head, as it stands in the log
pub count_chunk : (b : Bar) → Below b → length (chunk b) ≡ notes_in (head_of b)
unfolding notes_in
count_chunk b h = length_back [] b.notes ∙ omega (arith, count_voices b.notes h)

-- a note by its voice
own_voice : (v : ℕ) (x : ℕ × Note) → eqb x.0 v ≡ true → x ≡ (v, x.1)
own_voice v x e = ap (λ (a : ℕ). (a, x.1)) (eqb-true x.0 v e)

-- the notes of a voice, in the order written
pub voice_order : (v : ℕ) (xs : List (ℕ × Note)) → of_voice v (back [] xs) ≡ tagged v (back [] (voice v xs))
unfolding of_voice tagged
voice_order v [] = refl
voice_order v (x ∷ xs) =
    let t : ℕ × Note → Bool = λ y. eqb y.0 v in
    let w : Note → ℕ × Note = λ n. (v, n) in
    by_test (eqb x.0 v)
    (λ e. rw e (filter_snoc_yes t (back [] xs) x e ∙ (λ i. voice_order v xs i ++ (own_voice v x e i ∷ [])) ∙ sym (map_append w (back [] (voice v xs)) (x.1 ∷ []))))
    (λ e. rw e (filter_snoc_no t (back [] xs) x e ∙ voice_order v xs))

-- four lists, one after the other, grouped from the left or from the right
four_lists : {A : Type 0} (a b c d : List A) → a ++ b ++ c ++ d ≡ a ++ (b ++ (c ++ (d ++ [])))
four_lists a b c d =
    append_assoc (a ++ b) c d ∙ append_assoc a b (c ++ d) ∙ ap (λ l. a ++ (b ++ (c ++ l))) (sym (append-nil d))

-- a measure's notes by voice
notes_by_voice : (b : Bar) → Sections.by_voice (chunk b) ≡ Records.by_voice 0 (final_of b).voices
unfolding Sections.by_voice Records.by_voice in_order
notes_by_voice b =
    let e : (v : ℕ) → of_voice v (chunk b) ≡ tagged v (reverse (voice v b.notes)) = λ v. voice_order v b.notes ∙ ap (tagged v) (sym (reverse_back (voice v b.notes))) in
    let t : ℕ → List (ℕ × Note) = λ v. tagged v (reverse (voice v b.notes)) in
    (λ i. e 0 i ++ e 1 i ++ e 2 i ++ e 3 i) ∙ four_lists (t 0) (t 1) (t 2) (t 3)

-- the part's notes
notes_same : (bars : List Bar) → All Below bars → Sections.in_order (map head_of bars) (concat (map chunk bars)) ≡ all_notes (map final_of bars)
unfolding Sections.in_order all_notes
notes_same [] h = refl
notes_same (b ∷ bs) h =
    let r = concat (map chunk bs) in
    let n = notes_in (head_of b) in
    let e : length (chunk b) ≡ n = count_chunk b h.0 in
    (λ i. Sections.by_voice (take_at (chunk b) r n e i) ++ Sections.in_order (map head_of bs) (drop_at (chunk b) r n e i))
    ∙ (λ i. notes_by_voice b i ++ notes_same bs h.1 i)

-- THE NOTES THAT TAKE A SYLLABLE
-- of a measure's notes those of voice 0 alone
takers_voice : (n : ℕ) (xs : List (ℕ × Note)) → Ends.takers n xs ≡ Ends.takers n (of_voice 0 xs)
unfolding Ends.takers of_voice is_sung
takers_voice n [] = refl
takers_voice n (x ∷ xs) =
    by_test (eqb x.0 0)
    (λ e. rw (e, filter)
    (by_test (is_sounded x.1.kind)
    (λ k. by_test x.1.flags.grace (λ g. rw (e, k, g, Ends.takers) (takers_voice (suc n) xs)) (λ g. rw (e, k, g, Ends.takers) (ap (λ (l : List ℕ). n ∷ l) (takers_voice (suc n) xs))))
    (λ k. rw (e, k, Ends.takers) (takers_voice n xs))))
    (λ e. rw (e, filter, Ends.takers) (takers_voice n xs))

sung_voice : (xs : List (ℕ × Note)) → Ends.sung_notes xs ≡ Ends.sung_notes (of_voice 0 xs)
unfolding Ends.sung_notes of_voice is_sung
sung_voice [] = refl
sung_voice (x ∷ xs) =
    by_test (eqb x.0 0)
    (λ e. rw (e, filter) (by_test (is_sounded x.1.kind) (λ k. rw (e, k, Ends.sung_notes) (ap suc (sung_voice xs))) (λ k. rw (e, k, Ends.sung_notes) (sung_voice xs))))
    (λ e. rw (e, filter, Ends.sung_notes) (sung_voice xs))

-- and of those as of a plain voice
takers_plain : (n : ℕ) (xs : List Note) → Ends.takers n (tagged 0 xs) ≡ Part.takers n xs
unfolding Ends.takers Part.takers tagged is_sung
takers_plain n [] = refl
takers_plain n (x ∷ xs) =
    by_test (is_sounded x.kind)
    (λ k. by_test x.flags.grace (λ g. rw (k, g, Ends.takers, Part.takers) (takers_plain (suc n) xs)) (λ g. rw (k, g, Ends.takers, Part.takers) (ap (λ (l : List ℕ). n ∷ l) (takers_plain (suc n) xs))))
    (λ k. rw (k, Ends.takers, Part.takers) (takers_plain n xs))

sung_plain : (xs : List Note) → Ends.sung_notes (tagged 0 xs) ≡ sounded_in xs
unfolding Ends.sung_notes sounded_in tagged is_sung
sung_plain [] = refl
sung_plain (x ∷ xs) = by_test (is_sounded x.kind) (λ k. rw (k, Ends.sung_notes, sounded_in) (ap suc (sung_plain xs))) (λ k. rw (k, Ends.sung_notes, sounded_in) (sung_plain xs))

-- measure by measure
takers_same : (n : ℕ) (bars : List Bar) → All Below bars → Ends.takers_in n (map head_of bars) (concat (map chunk bars)) ≡ Part.takers_in n (map final_of bars)
unfolding Ends.takers_in Part.takers_in in_order
takers_same n [] h = refl
takers_same n (b ∷ bs) h =
    let r = concat (map chunk bs) in
    let k = notes_in (head_of b) in
    let e : length (chunk b) ≡ k = count_chunk b h.0 in
    let v = reverse (voice 0 b.notes) in
    let o : of_voice 0 (chunk b) ≡ tagged 0 v = voice_order 0 b.notes ∙ ap (tagged 0) (sym (reverse_back (voice 0 b.notes))) in
    let t : Ends.takers n (chunk b) ≡ Part.takers n v = takers_voice n (chunk b) ∙ ap (Ends.takers n) o ∙ takers_plain n v in
    let c : Ends.sung_notes (chunk b) ≡ sounded_in v = sung_voice (chunk b) ∙ ap Ends.sung_notes o ∙ sung_plain v in
    (λ i. Ends.takers n (take_at (chunk b) r k e i) ∷ Ends.takers_in (n + Ends.sung_notes (take_at (chunk b) r k e i)) (map head_of bs) (drop_at (chunk b) r k e i))
    ∙ (λ i. t i ∷ Ends.takers_in (n + c i) (map head_of bs) r) ∙ ap (λ (l : List (List ℕ)). Part.takers n v ∷ l) (takers_same (n + sounded_in v) bs h.1)

-- THE SECTIONS
-- of a state of both
final_sections : (ed : Edition) (header : Key) (l : LogState) (p : PartState) → l.verses ≡ p.verses → Final header l p
    → Sections.sections (Ends.finished ed header l) ≡ Records.sections (Part.finished ed header p)
unfolding Sections.sections Records.sections Sections.notes_of Records.notes_of Sections.pitches_of Records.pitches_of Sections.lyrics Records.lyrics Sections.lyric_text Records.lyric_text Ends.finished Part.finished
final_sections ed header l p v f =
    let m : section head_bytes (Ends.finished_heads header l) ≡ section measure_bytes (Part.finished_measures header p) =
    ap (section head_bytes) (sym f.heads_are) ∙ section_same head_bytes measure_bytes head_of final_of bytes_same f.bars ∙ ap (section measure_bytes) f.measures_are
    in
    let n : Sections.in_order (Ends.finished_heads header l) l.log ≡ all_notes (Part.finished_measures header p) =
    (λ i. Sections.in_order (sym f.heads_are i) (sym f.log_is i)) ∙ notes_same f.bars f.voices_below ∙ ap all_notes f.measures_are
    in
    let t : Ends.takers_in 0 (Ends.finished_heads header l) l.log ≡ Part.takers_in 0 (Part.finished_measures header p) =
    (λ i. Ends.takers_in 0 (sym f.heads_are i) (sym f.log_is i)) ∙ takers_same 0 f.bars f.voices_below ∙ ap (Part.takers_in 0) f.measures_are
    in
    let w : (Ends.finished ed header l).words ≡ (Part.finished ed header p).words = λ i. sung_in ed (t i) (reverse (v i).lines) (replicate (v i).sounded []) in
    λ i. m i
    ++ section (λ (x : ℕ × Note). note_bytes x.1) (n i)
    ++ section pitch_bytes (concat (map (λ (x : ℕ × Note). x.1.pitches) (n i)))
    ++ section (λ (x : ℕ × Syllable). lyric_bytes x.0 x.1) (lyrics_of 0 (n i) (w i))
    ++ section (λ (c : ℕ). c ∷ []) (concat (map (λ (x : ℕ × Syllable). x.1.text) (lyrics_of 0 (n i) (w i))))

-- EVERY PART, LAID OUT OR PLAIN, HAS THE SAME SECTIONS
pub same_sections : (ed : Edition) (header : Key) (items : List Item) → Sections.sections (Ends.build ed header items) ≡ Records.sections (Part.build ed header items)
unfolding Ends.build Part.build
same_sections ed header items =
    let s = sim_items ed header items in
    let l = foldl (Ends.on_item ed header) new_log items in
    let p = foldl (Part.on_item ed header) new_part items in
    final_sections ed header l p (ap (λ (x : LogState). x.verses) (sym s.laid_is) ∙ ap (λ (x : PartState). x.verses) s.plain_is) (sim_final header l p s)
