-- THE NOTES IN THE ORDER OF THE READING: what the rows give is layout's section.
use Prim.Native.Nat.{ℕ, zero, suc, ◌+◌, ◌-◌, ◌*◌, ◌%◌, ◌^◌, ◌≤◌, ◌<◌}
use mathlib.Core.Path.{◌≡◌, refl, sym, ap, subst, ◌∙◌}
use mathlib.Core.Bool.{Bool, true, false, cond}
use mathlib.Core.List.{List, [], ◌∷◌, ◌++◌, append-nil, append_assoc}
use native.Mathlib.Omega.{arith}
use lib.Dec.{eqb}
use lib.ListN.{length, take, drop, length-append, length-take, length-drop, take-append-drop}
use Rattle.laws.specs.Lists.{All, filter, sum}
use Rattle.laws.specs.Bytes.{part, splice, enc_all, little, le32}
use Rattle.laws.proofs.Lists.{sum_append, All-left, All-right}
use Rattle.laws.proofs.Parts.{length_part, part_part}
use Rattle.laws.proofs.Splices.{spliced_next}
use Rattle.laws.proofs.Numbers.{length_little}
use Rattle.laws.proofs.Rows.{enc_all_none, enc_all_cons, enc_all_append}
use Rattle.standard.specs.Notes.{beamable}
use Rattle.reader.specs.State.{Note}
use Rattle.reader.specs.Codes.{bit}
use Rattle.reader.specs.Records.{is_unbeamed, flag_byte, note_bytes, section, measure_width, note_width}
use Rattle.reader.proofs.CodeLaws.{kind_sounded}
use Rattle.part_layout.specs.Log.{Head, notes_in}
use Rattle.part_layout.specs.Sections.{head_bytes, of_voice, by_voice, in_order}
use Rattle.reading_records.specs.Widths.{count_width}
use Rattle.part_rows.specs.Table.{Table}
use Rattle.part_rows.specs.declared.NoteStart.{NoteStart}
use Rattle.part_rows.specs.Read.{start_at, rest_at, of_voice_at}
use Rattle.part_rows.specs.Encoded.{flags_byte, row_bytes, note_row, note_row_width, flags_at, value_at, dots_at, beam_at}
use Rattle.part_rows.proofs.Bytes.{length_note}
use Rattle.part_rows.proofs.Notes.{byte, byte_kind, byte_voice, marks_small}
use Rattle.part_measures.specs.Heads.{head_row, note_count, total}
use Rattle.part_measures.proofs.Heads.{length_head, head_row_lem}
use Rattle.part_measures.proofs.Counts.{count_out, total_out, total_step}
use Rattle.std.specs.Prelude.{Option, Some, None}
use Rattle.store_sections.specs.Writes.{WroteIs}
use Rattle.write_notes.specs.declared.PartTables.{PartTables}
use Rattle.write_notes.specs.Tables.{InStore, Represents}
use Rattle.write_notes.specs.Out.{is_lone, flags_for, note_out, voice_out, voices_out, notes_out, measures_section, notes_section}
use Rattle.part_rows.proofs.Cuts.{table_rest, table_take, table_drop, table_first}

-- STEPS, as the loops take them: row i of k
voice_step : (s : List ℕ) (v p k i : ℕ) → i < k
    → voice_out s v (p + note_row_width * i) (k - i) ≡ cond (of_voice_at s v (p + note_row_width * i)) (note_out s (p + note_row_width * i)) [] ++ voice_out s v (p + note_row_width * (i + 1)) (k - (i + 1))
unfolding voice_out
voice_step s v p k i h =
    let e : k - i ≡ suc (k - (i + 1)) = omega arith in
    let f : p + note_row_width * i + note_row_width ≡ p + note_row_width * (i + 1) = omega arith in
    rw (e, voice_out, f)

pub voice_yes : (s : List ℕ) (v p k i : ℕ) → i < k → of_voice_at s v (p + note_row_width * i) ≡ true
    → voice_out s v (p + note_row_width * i) (k - i) ≡ note_out s (p + note_row_width * i) ++ voice_out s v (p + note_row_width * (i + 1)) (k - (i + 1))
voice_yes s v p k i h e = voice_step s v p k i h ∙ rw e

pub voice_no : (s : List ℕ) (v p k i : ℕ) → i < k → of_voice_at s v (p + note_row_width * i) ≡ false
    → voice_out s v (p + note_row_width * i) (k - i) ≡ voice_out s v (p + note_row_width * (i + 1)) (k - (i + 1))
voice_no s v p k i h e = voice_step s v p k i h ∙ rw e

pub voice_none : (s : List ℕ) (v p k i : ℕ) → k ≤ i → voice_out s v p (k - i) ≡ []
unfolding voice_out
voice_none s v p k i h = let e : k - i ≡ 0 = omega arith in rw e

pub voices_step : (s : List ℕ) (p k v j : ℕ) → v < j → voices_out s p k v (j - v) ≡ voice_out s v p k ++ voices_out s p k (v + 1) (j - (v + 1))
unfolding voices_out
voices_step s p k v j h =
    let e : j - v ≡ suc (j - (v + 1)) = omega arith in
    let f : suc v ≡ v + 1 = omega arith in
    rw (e, voices_out, f)

pub voices_none : (s : List ℕ) (p k v j : ℕ) → j ≤ v → voices_out s p k v (j - v) ≡ []
unfolding voices_out
voices_none s p k v j h = let e : j - v ≡ 0 = omega arith in rw e

-- measure i of n, which has k notes
pub notes_step : (s : List ℕ) (h p n i k : ℕ) → i < n → k ≡ note_count s (h + measure_width * i)
    → notes_out s (h + measure_width * i) p (n - i) ≡ voices_out s p k 0 4 ++ notes_out s (h + measure_width * (i + 1)) (p + note_row_width * k) (n - (i + 1))
unfolding notes_out
notes_step s h p n i k l q =
    let e : n - i ≡ suc (n - (i + 1)) = omega arith in
    let f : h + measure_width * i + measure_width ≡ h + measure_width * (i + 1) = omega arith in
    rw (e, notes_out, f, q)

pub notes_none : (s : List ℕ) (h p n i : ℕ) → n ≤ i → notes_out s h p (n - i) ≡ []
unfolding notes_out
notes_none s h p n i l = let e : n - i ≡ 0 = omega arith in rw e

-- their notes
pub total_first : (s : List ℕ) (h n : ℕ) → total s (h + measure_width * 0) (n - 0) ≡ total s h n
total_first s h n =
    let e : n - 0 ≡ n = omega arith in
    let f : h + measure_width * 0 ≡ h = omega arith in
    λ i. total s (f i) (e i)

pub total_more : (s : List ℕ) (h n i : ℕ) → i < n → total s (h + measure_width * i) (n - i) ≡ note_count s (h + measure_width * i) + total s (h + measure_width * (i + 1)) (n - (i + 1))
total_more s h n i l =
    let e : n - i - 1 ≡ n - (i + 1) = omega arith in
    let f : h + measure_width * i + measure_width ≡ h + measure_width * (i + 1) = omega arith in
    total_step s (h + measure_width * i) (n - i) (omega arith) ∙ (λ j. note_count s (h + measure_width * i) + total s (f j) (e j))

pub length_note_out : (s : List ℕ) (p : ℕ) → p + note_row_width ≤ length s → length (note_out s p) ≡ note_width
unfolding note_out part
length_note_out s p h = simp (length-take, length-drop) (omega arith)

-- FLAGS, as the code computes them: r is 1 where the note is lone, else 0
thirty_two : (b : Bool) → 32 * bit b 1 ≡ bit b 32
unfolding bit
thirty_two true = refl
thirty_two false = refl

pub flags_are : (n : NoteStart) (r : ℕ) (b : Bool) → r ≡ bit b 1 → b ≡ is_lone n → n.flags % 32 + 32 * r ≡ flags_for n
unfolding flags_for
flags_are n r b e f = ap (λ (k : ℕ). n.flags % 32 + k) (ap (λ (k : ℕ). 32 * k) (e ∙ ap (λ (c : Bool). bit c 1) f) ∙ thirty_two (is_lone n))

-- A record, as it is written
pub note_wrote : {d u e : List ℕ} (s : List ℕ) (p fl : ℕ) (n : NoteStart) → n ≡ start_at s p → u ≡ splice d 0 (n.kind ∷ n.value ∷ n.dots ∷ fl ∷ []) → e ≡ splice u beam_at (rest_at s p) → fl ≡ flags_for n
    → p + note_row_width ≤ length s → note_width ≤ length d → WroteIs d (note_out s p) e (Some note_width)
unfolding note_out
note_wrote {d} {u} {e} s p fl n is q r f h l =
    record {
      says = (
        sym (length_note_out s p h),
        l,
        spliced_next d u e 0 beam_at _ _ q r refl ∙ ap (λ (k : ℕ). splice d 0 ((n.kind ∷ n.value ∷ n.dots ∷ k ∷ []) ++ rest_at s p)) f
            ∙ ap (λ (x : NoteStart). splice d 0 ((x.kind ∷ x.value ∷ x.dots ∷ flags_for x ∷ []) ++ rest_at s p)) is,
      );
    }

-- MEASURES, as they are written
module _ (s : List ℕ) (t : PartTables) (i : InStore s t) where
  measures_length : length (measures_section s t) ≡ count_width + measure_width * t.measures.count
  measures_length =
      length-append (le32 t.measures.count) (part s t.measures.at (measure_width * t.measures.count))
      ∙ omega (arith, length_little 4 t.measures.count, length_part s t.measures.at (measure_width * t.measures.count) i.measures_in)

  pub measures_wrote : {d u e : List ℕ} → u ≡ splice d 0 (le32 t.measures.count) → e ≡ splice u count_width (part s t.measures.at (measure_width * t.measures.count))
      → count_width + measure_width * t.measures.count ≤ length d → WroteIs d (measures_section s t) e (Some (count_width + measure_width * t.measures.count))
  measures_wrote {d} {u} {e} q r l =
      let four : length (le32 t.measures.count) ≡ count_width = length_little 4 t.measures.count in
      record { says = (sym measures_length, l, spliced_next d u e 0 count_width _ _ q r (omega arith)) }

  pub measures_none : {d e : List ℕ} → length d < count_width + measure_width * t.measures.count → WroteIs d (measures_section s t) e None
  measures_none l = record { says = omega (arith, measures_length) }

-- the same bytes in other words
pub wrote_as_lem : {d a e : List ℕ} {r : Option ℕ} → WroteIs d a e r → {b : List ℕ} → a ≡ b → WroteIs d b e r
wrote_as_lem {d} {a} {e} {r} w p = subst (λ (l : List ℕ). WroteIs d l e r) p w

module _ (s : List ℕ) (p : ℕ) (x : ℕ × Note) (e : part s p note_row_width ≡ note_row x) where
  lone : is_lone (start_at s p) ≡ is_unbeamed x.1
  unfolding is_lone is_unbeamed beamable row_bytes
  lone = rw (byte_kind s p x e, byte s p x e value_at (omega arith), byte s p x e beam_at (omega arith), kind_sounded)

  flags : flags_for (start_at s p) ≡ flag_byte x.1
  unfolding flags_for flag_byte row_bytes flags_byte
  flags = (λ i. byte s p x e flags_at (omega arith) i % 32 + bit (lone i) 32) ∙ ap (λ (k : ℕ). k + bit (is_unbeamed x.1) 32) (marks_small x.1.flags)

  back : rest_at s p ≡ part (note_row x) beam_at 8
  back = sym (part_part s p note_row_width beam_at 8 (omega arith)) ∙ ap (λ (l : List ℕ). part l beam_at 8) e

  pub note_out_lem : note_out s p ≡ note_bytes x.1
  unfolding note_out note_bytes row_bytes little part
  note_out_lem = λ i. (byte_kind s p x e i ∷ byte s p x e value_at (omega arith) i ∷ byte s p x e dots_at (omega arith) i ∷ flags i ∷ []) ++ back i

-- ONE VOICE
abbrev pub out : ℕ × Note → List ℕ
out x = note_bytes x.1

kept_by : (v : ℕ) (x : ℕ × Note) (xs : List (ℕ × Note)) (b : Bool) → eqb x.0 v ≡ b → cond b (out x) [] ++ enc_all out (of_voice v xs) ≡ enc_all out (of_voice v (x ∷ xs))
unfolding of_voice
kept_by v x xs true e = rw e (sym (enc_all_cons out x (filter (λ (x : ℕ × Note). eqb x.0 v) xs)))
kept_by v x xs false e = rw e

pub voice_out_lem : (s : List ℕ) (v p : ℕ) (xs : List (ℕ × Note)) → Table note_row note_row_width s p xs → voice_out s v p (length xs) ≡ enc_all out (of_voice v xs)
unfolding voice_out of_voice
voice_out_lem s v p [] t = sym (enc_all_none out)
voice_out_lem s v p (x ∷ xs) t =
    let place : p + note_row_width * 0 ≡ p = omega arith in
    let row = ap (λ (k : ℕ). part s k note_row_width) (sym place) ∙ table_first note_row note_row_width length_note x xs t in
    let ih = voice_out_lem s v (p + note_row_width) xs (table_rest note_row note_row_width length_note (x ∷ []) xs (p + note_row_width) (omega arith) t) in
    rw (byte_voice s p x row, note_out_lem s p x row, ih) (kept_by v x xs (eqb x.0 v) refl)

-- by_voice, with the first voice before the others
pub by_voice_lem : (xs : List (ℕ × Note)) → by_voice xs ≡ of_voice 0 xs ++ (of_voice 1 xs ++ (of_voice 2 xs ++ of_voice 3 xs))
unfolding by_voice
by_voice_lem xs = append_assoc (of_voice 0 xs ++ of_voice 1 xs) (of_voice 2 xs) (of_voice 3 xs) ∙ append_assoc (of_voice 0 xs) (of_voice 1 xs) (of_voice 2 xs ++ of_voice 3 xs)

pub measure_out : (s : List ℕ) (p : ℕ) (xs : List (ℕ × Note)) → Table note_row note_row_width s p xs → voices_out s p (length xs) 0 4 ≡ enc_all out (by_voice xs)
unfolding voices_out
measure_out s p xs t =
    let v : (v : ℕ) → voice_out s v p (length xs) ≡ enc_all out (of_voice v xs) = λ v. voice_out_lem s v p xs t in
    rw (v 0, v 1, v 2, v 3, append-nil)
    (sym (ap (enc_all out) (by_voice_lem xs) ∙ enc_all_append out (of_voice 0 xs) (of_voice 1 xs ++ (of_voice 2 xs ++ of_voice 3 xs)) ∙ rw (enc_all_append out (of_voice 1 xs) (of_voice 2 xs ++ of_voice 3 xs), enc_all_append out (of_voice 2 xs) (of_voice 3 xs))))

-- ALL MEASURES
pub notes_out_lem : (s : List ℕ) (h p : ℕ) (ms : List Head) (log : List (ℕ × Note)) → Table head_row measure_width s h ms → Table note_row note_row_width s p log → All (λ (m : Head). length m.counts ≡ 4) ms
    → sum notes_in ms ≡ length log → length log < 2 ^ 32 → notes_out s h p (length ms) ≡ enc_all out (in_order ms log)
unfolding notes_out in_order
notes_out_lem s h p [] log t u four e l = sym (enc_all_none out)
notes_out_lem s h p (m ∷ ms) log t u four e l =
    let k = notes_in m in
    let n : note_count s h ≡ k = count_out s h m ms t four.0 (omega arith) in
    let front : length (take k log) ≡ k = length-take k log ∙ omega arith in
    let first = ap (λ (j : ℕ). voices_out s p j 0 4) (n ∙ sym front) ∙ measure_out s p (take k log) (table_take note_row note_row_width length_note k log u) in
    let ih =
    notes_out_lem s (h + measure_width) (p + note_row_width * k) ms (drop k log) (table_rest head_row measure_width length_head (m ∷ []) ms (h + measure_width) (omega arith) t) (table_drop note_row note_row_width length_note k log (p + note_row_width * k) (omega arith) refl u)
    four.1
    (omega (arith, length-drop k log))
    (omega (arith, length-drop k log)) in
    (λ i. first i ++ notes_out s (h + measure_width) (p + note_row_width * n i) (length ms)) ∙ rw ih (sym (enc_all_append out (by_voice (take k log)) (in_order ms (drop k log))))

-- EACH NOTE ONCE: a sum over the notes in order is the sum over the log
one_of : (v n : ℕ) → v < 4 → cond (eqb v 0) n 0 + (cond (eqb v 1) n 0 + (cond (eqb v 2) n 0 + cond (eqb v 3) n 0)) ≡ n
one_of zero n h = omega arith
one_of (suc zero) n h = omega arith
one_of (suc (suc zero)) n h = omega arith
one_of (suc (suc (suc zero))) n h = omega arith
one_of (suc (suc (suc (suc v)))) n h = absurd (omega arith)

module _ (f : ℕ × Note → ℕ) where
  voice_sum : (v : ℕ) (x : ℕ × Note) (xs : List (ℕ × Note)) (b : Bool) → eqb x.0 v ≡ b → sum f (of_voice v (x ∷ xs)) ≡ cond b (f x) 0 + sum f (of_voice v xs)
  unfolding of_voice
  voice_sum v x xs true e = rw e
  voice_sum v x xs false e = rw e (omega arith)

  four_voices : (xs : List (ℕ × Note)) → All (λ (x : ℕ × Note). x.0 < 4) xs → sum f (of_voice 0 xs) + (sum f (of_voice 1 xs) + (sum f (of_voice 2 xs) + sum f (of_voice 3 xs))) ≡ sum f xs
  unfolding of_voice
  four_voices [] h = refl
  four_voices (x ∷ xs) h =
      omega (
        arith,
        voice_sum 0 x xs (eqb x.0 0) refl,
        voice_sum 1 x xs (eqb x.0 1) refl,
        voice_sum 2 x xs (eqb x.0 2) refl,
        voice_sum 3 x xs (eqb x.0 3) refl,
        one_of x.0 (f x) h.0,
        four_voices xs h.1,
      )

  by_voice_sum : (xs : List (ℕ × Note)) → All (λ (x : ℕ × Note). x.0 < 4) xs → sum f (by_voice xs) ≡ sum f xs
  by_voice_sum xs h =
      ap (sum f) (by_voice_lem xs) ∙ sum_append f (of_voice 0 xs) (of_voice 1 xs ++ (of_voice 2 xs ++ of_voice 3 xs))
      ∙ omega (arith, sum_append f (of_voice 1 xs) (of_voice 2 xs ++ of_voice 3 xs), sum_append f (of_voice 2 xs) (of_voice 3 xs), four_voices xs h)

  pub in_order_sum : (ms : List Head) (log : List (ℕ × Note)) → sum notes_in ms ≡ length log → All (λ (x : ℕ × Note). x.0 < 4) log → sum f (in_order ms log) ≡ sum f log
  unfolding in_order
  in_order_sum [] [] e h = refl
  in_order_sum [] (x ∷ log) e h = absurd (omega arith)
  in_order_sum (m ∷ ms) log e h =
      let k = notes_in m in
      let a = take k log in
      let b = drop k log in
      let both = subst (All (λ (x : ℕ × Note). x.0 < 4)) (sym (take-append-drop k log)) h in
      sum_append f (by_voice a) (in_order ms b)
      ∙ (λ i. by_voice_sum a (All-left _ a b both) i + in_order_sum ms b (omega (arith, length-drop k log)) (All-right _ a b both) i)
      ∙ sym (sum_append f a b) ∙ ap (sum f) (take-append-drop k log)

ones : (xs : List (ℕ × Note)) → sum (λ x. 1) xs ≡ length xs
ones [] = refl
ones (x ∷ xs) = omega (arith, ones xs)

pub length_by_voice : (xs : List (ℕ × Note)) → All (λ (x : ℕ × Note). x.0 < 4) xs → length (by_voice xs) ≡ length xs
length_by_voice xs h = sym (ones (by_voice xs)) ∙ by_voice_sum (λ x. 1) xs h ∙ ones xs

pub length_in_order : (ms : List Head) (log : List (ℕ × Note)) → sum notes_in ms ≡ length log → All (λ (x : ℕ × Note). x.0 < 4) log → length (in_order ms log) ≡ length log
length_in_order ms log e h = sym (ones (in_order ms log)) ∙ in_order_sum (λ x. 1) ms log e h ∙ ones log

-- THE SECTIONS
-- a table of head_row is one of head_bytes
heads_bytes : (ms : List Head) → All (λ (m : Head). length m.counts ≡ 4) ms → enc_all head_row ms ≡ enc_all head_bytes ms
unfolding enc_all
heads_bytes [] h = refl
heads_bytes (m ∷ ms) h = λ i. head_row_lem m h.0 i ++ heads_bytes ms h.1 i

module _ {s : List ℕ} {t : PartTables} {ms : List Head} {log : List (ℕ × Note)} (h : Represents s t ms log) where
  pub measures_section_lem : measures_section s t ≡ section head_bytes ms
  unfolding section enc_all
  measures_section_lem =
      ap (λ (k : ℕ). le32 k ++ part s t.measures.at (measure_width * k)) (sym h.measures_are) ∙ ap (λ (l : List ℕ). le32 (length ms) ++ l) (h.measures_table.holds ∙ heads_bytes ms h.fits.four_counts)

  pub notes_section_lem : notes_section s t ≡ section (λ (x : ℕ × Note). note_bytes x.1) (in_order ms log)
  unfolding section enc_all
  notes_section_lem =
      let f = h.fits in
      let l : t.notes.count ≡ length (in_order ms log) = sym (length_in_order ms log f.all_notes_lem f.voices_below ∙ h.notes_are) in
      let bytes = ap (notes_out s t.measures.at t.notes.at) (sym h.measures_are) ∙ notes_out_lem s t.measures.at t.notes.at ms log h.measures_table h.notes_table f.four_counts f.all_notes_lem (omega (arith, h.few_notes, h.notes_are)) in
      λ i. le32 (l i) ++ bytes i

  -- the measures count as many notes as the table of notes has
  pub notes_total : total s t.measures.at t.measures.count ≡ t.notes.count
  notes_total =
      let f = h.fits in
      ap (total s t.measures.at) (sym h.measures_are) ∙ total_out s t.measures.at ms h.measures_table f.four_counts (omega (arith, f.all_notes_lem, h.few_notes, h.notes_are)) ∙ f.all_notes_lem ∙ h.notes_are

-- A WRITER OF THESE BYTES writes the section of whatever the tables represent
pub measures_say : {d e : List ℕ} {r : Option ℕ} {s : List ℕ} {t : PartTables} → WroteIs d (measures_section s t) e r
    → WroteIs d (measures_section s t) e r × ((ms : List Head) (log : List (ℕ × Note)) → Represents s t ms log → WroteIs d (section head_bytes ms) e r)
measures_say w = (w, λ ms log h. wrote_as_lem w (measures_section_lem h))

pub notes_say : {d e : List ℕ} {r : Option ℕ} {s : List ℕ} {t : PartTables} → WroteIs d (notes_section s t) e r
    → WroteIs d (notes_section s t) e r × ((ms : List Head) (log : List (ℕ × Note)) → Represents s t ms log → WroteIs d (section (λ (x : ℕ × Note). note_bytes x.1) (in_order ms log)) e r)
notes_say w = (w, λ ms log h. wrote_as_lem w (notes_section_lem h))
