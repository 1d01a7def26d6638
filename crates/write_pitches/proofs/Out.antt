-- THE PITCHES IN THE ORDER OF THE READING: what the rows give is layout's section.
use Prim.Native.Nat.{ℕ, zero, suc, ◌+◌, ◌-◌, ◌*◌, ◌^◌, ◌≤◌, ◌<◌}
use mathlib.Core.Path.{◌≡◌, refl, sym, ap, subst, ◌∙◌}
use mathlib.Core.Bool.{Bool, true, false, cond}
use mathlib.Core.List.{List, [], ◌∷◌, ◌++◌, map, append-nil}
use native.Mathlib.Omega.{arith}
use lib.Dec.{eqb}
use lib.ListN.{length, take, drop, length-append, length-take, length-drop, take-append-drop}
use Rattle.laws.specs.Lists.{All, filter, concat, sum}
use Rattle.laws.specs.Bytes.{part, splice, enc_all, little, le32, u32_at}
use Rattle.laws.proofs.Lists.{map_append, concat_append, length_concat, sum_map}
use Rattle.laws.proofs.Parts.{length_part}
use Rattle.laws.proofs.Numbers.{little_at_part, little_at_little, little_at_own}
use Rattle.laws.proofs.Rows.{enc_all_none, enc_all_append}
use Rattle.reader.specs.State.{Note}
use Rattle.reader.specs.Records.{pitch_bytes, section, measure_width}
use Rattle.part_layout.specs.Log.{Head, notes_in}
use Rattle.part_layout.specs.Sections.{of_voice, by_voice, in_order}
use Rattle.part_rows.specs.Table.{Table}
use Rattle.part_rows.specs.Read.{of_voice_at, pitch_count}
use Rattle.part_rows.specs.Encoded.{row_bytes, note_row, note_row_width, pitch_row_width, pitch_count_at}
use Rattle.part_rows.proofs.Bytes.{length_note, length_pitch}
use Rattle.part_rows.proofs.Notes.{byte_voice}
use Rattle.part_measures.specs.Heads.{head_row, note_count, total}
use Rattle.part_measures.proofs.Heads.{length_head}
use Rattle.std.specs.Prelude.{Option, Some, None}
use Rattle.store_sections.specs.Writes.{WroteIs}
use Rattle.part_rows.proofs.Zipped.{table_front}
use Rattle.write_notes.specs.declared.PartTables.{PartTables}
use Rattle.write_notes.specs.Tables.{pitch_total, pitches_of, Represents}
use Rattle.part_rows.proofs.Cuts.{table_rest, table_take, table_drop, table_first}
use Rattle.part_measures.proofs.Counts.{count_out}
use Rattle.write_notes.proofs.Out.{wrote_as_lem, by_voice_lem, in_order_sum, notes_total}
use Rattle.write_pitches.specs.Out.{voice_out, voices_out, pitches_out, pitches_section}

-- STEPS, as the loops take them: row i of k
pub pitch_total_more : (s : List ℕ) (p k i : ℕ) → i < k → pitch_total s (p + note_row_width * i) (k - i) ≡ pitch_count s (p + note_row_width * i) + pitch_total s (p + note_row_width * (i + 1)) (k - (i + 1))
unfolding pitch_total
pitch_total_more s p k i h =
    let e : k - i ≡ suc (k - (i + 1)) = omega arith in
    let f : p + note_row_width * i + note_row_width ≡ p + note_row_width * (i + 1) = omega arith in
    rw (e, pitch_total, f)

pub pitch_total_first : (s : List ℕ) (p k : ℕ) → pitch_total s (p + note_row_width * 0) (k - 0) ≡ pitch_total s p k
pitch_total_first s p k =
    let e : k - 0 ≡ k = omega arith in
    let f : p + note_row_width * 0 ≡ p = omega arith in
    λ i. pitch_total s (f i) (e i)

pub pitch_total_none : (s : List ℕ) (p k : ℕ) → k ≡ 0 → pitch_total s p k ≡ 0
unfolding pitch_total
pitch_total_none s p k h = rw h

pitch_total_add : (s : List ℕ) (p a b : ℕ) → pitch_total s p (a + b) ≡ pitch_total s p a + pitch_total s (p + note_row_width * a) b
unfolding pitch_total
pitch_total_add s p zero b = let e : 0 + b ≡ b = omega arith in let f : p + note_row_width * 0 ≡ p = omega arith in rw (e, f) (omega arith)
pitch_total_add s p (suc a) b =
    let e : suc a + b ≡ suc (a + b) = omega arith in
    let f : p + note_row_width + note_row_width * a ≡ p + note_row_width * suc a = omega arith in
    rw (e, pitch_total) (omega (arith, pitch_total_add s (p + note_row_width) a b, ap (λ (k : ℕ). pitch_total s k b) f))

pub pitch_total_split : (s : List ℕ) (p t a b : ℕ) → t ≡ a + b → pitch_total s p t ≡ pitch_total s p a + pitch_total s (p + note_row_width * a) b
pitch_total_split s p t a b e = ap (pitch_total s p) e ∙ pitch_total_add s p a b

voice_step : (s : List ℕ) (v p q k i : ℕ) → i < k
    → voice_out s v (p + note_row_width * i) q (k - i)
    ≡ cond (of_voice_at s v (p + note_row_width * i)) (part s q (pitch_row_width * pitch_count s (p + note_row_width * i))) []
    ++ voice_out s v (p + note_row_width * (i + 1)) (q + pitch_row_width * pitch_count s (p + note_row_width * i)) (k - (i + 1))
unfolding voice_out
voice_step s v p q k i h =
    let e : k - i ≡ suc (k - (i + 1)) = omega arith in
    let f : p + note_row_width * i + note_row_width ≡ p + note_row_width * (i + 1) = omega arith in
    rw (e, voice_out, f)

pub voice_yes : (s : List ℕ) (v p q k i len : ℕ) → i < k → len ≡ pitch_row_width * pitch_count s (p + note_row_width * i) → of_voice_at s v (p + note_row_width * i) ≡ true
    → voice_out s v (p + note_row_width * i) q (k - i) ≡ part s q len ++ voice_out s v (p + note_row_width * (i + 1)) (q + len) (k - (i + 1))
voice_yes s v p q k i len h l e = voice_step s v p q k i h ∙ rw (e, l)

pub voice_no : (s : List ℕ) (v p q k i len : ℕ) → i < k → len ≡ pitch_row_width * pitch_count s (p + note_row_width * i) → of_voice_at s v (p + note_row_width * i) ≡ false
    → voice_out s v (p + note_row_width * i) q (k - i) ≡ voice_out s v (p + note_row_width * (i + 1)) (q + len) (k - (i + 1))
voice_no s v p q k i len h l e = voice_step s v p q k i h ∙ rw (e, l)

pub voice_none : (s : List ℕ) (v p q k i : ℕ) → k ≤ i → voice_out s v p q (k - i) ≡ []
unfolding voice_out
voice_none s v p q k i h = let e : k - i ≡ 0 = omega arith in rw e

pub voices_step : (s : List ℕ) (p q k v j : ℕ) → v < j → voices_out s p q k v (j - v) ≡ voice_out s v p q k ++ voices_out s p q k (v + 1) (j - (v + 1))
unfolding voices_out
voices_step s p q k v j h =
    let e : j - v ≡ suc (j - (v + 1)) = omega arith in
    let f : suc v ≡ v + 1 = omega arith in
    rw (e, voices_out, f)

pub voices_none : (s : List ℕ) (p q k v j : ℕ) → j ≤ v → voices_out s p q k v (j - v) ≡ []
unfolding voices_out
voices_none s p q k v j h = let e : j - v ≡ 0 = omega arith in rw e

-- measure i of n, which has k notes
pub pitches_step : (s : List ℕ) (h p q n i k : ℕ) → i < n → k ≡ note_count s (h + measure_width * i)
    → pitches_out s (h + measure_width * i) p q (n - i)
    ≡ voices_out s p q k 0 4 ++ pitches_out s (h + measure_width * (i + 1)) (p + note_row_width * k) (q + pitch_row_width * pitch_total s p k) (n - (i + 1))
unfolding pitches_out
pitches_step s h p q n i k l x =
    let e : n - i ≡ suc (n - (i + 1)) = omega arith in
    let f : h + measure_width * i + measure_width ≡ h + measure_width * (i + 1) = omega arith in
    rw (e, pitches_out, f, x)

pub pitches_none : (s : List ℕ) (h p q n i : ℕ) → n ≤ i → pitches_out s h p q (n - i) ≡ []
unfolding pitches_out
pitches_none s h p q n i l = let e : n - i ≡ 0 = omega arith in rw e

-- A run of bytes, as it is written
pub run_wrote : {d e : List ℕ} (s : List ℕ) (from len : ℕ) → e ≡ splice d 0 (part s from len) → from + len ≤ length s → len ≤ length d → WroteIs d (part s from len) e (Some len)
run_wrote s from len q h l = record { says = (sym (length_part s from len h), l, q) }

pub run_none : {d e : List ℕ} (s : List ℕ) (from len : ℕ) → from + len ≤ length s → length d < len → WroteIs d (part s from len) e None
run_none s from len h l = record { says = omega (arith, length_part s from len h) }

-- A ROW
number_at_lem : (x : ℕ × Note) → part (note_row x) pitch_count_at 4 ≡ le32 (length x.1.pitches)
unfolding row_bytes little part
number_at_lem x = refl

count_at : (s : List ℕ) (p : ℕ) (x : ℕ × Note) → part s p note_row_width ≡ note_row x → length x.1.pitches < 2 ^ 32 → pitch_count s p ≡ length x.1.pitches
count_at s p x e l =
    sym (little_at_part 4 s p note_row_width pitch_count_at (omega arith)) ∙ ap (λ (r : List ℕ). u32_at r pitch_count_at) e ∙ little_at_own 4 (note_row x) pitch_count_at
    ∙ ap (λ (r : List ℕ). u32_at r 0) (number_at_lem x)
    ∙ little_at_little 4 (length x.1.pitches) l

row_first : (s : List ℕ) (p : ℕ) (x : ℕ × Note) (xs : List (ℕ × Note)) → Table note_row note_row_width s p (x ∷ xs) → part s p note_row_width ≡ note_row x
row_first s p x xs t = let place : p + note_row_width * 0 ≡ p = omega arith in ap (λ (k : ℕ). part s k note_row_width) (sym place) ∙ table_first note_row note_row_width length_note x xs t

-- the bytes of the pitches of notes
abbrev pub out : List (ℕ × Note) → List ℕ
out log = enc_all pitch_bytes (pitches_of log)

pitches_append : (a b : List (ℕ × Note)) → pitches_of (a ++ b) ≡ pitches_of a ++ pitches_of b
pitches_append a b = ap concat (map_append (λ (x : ℕ × Note). x.1.pitches) a b) ∙ concat_append (map (λ (x : ℕ × Note). x.1.pitches) a) (map (λ (x : ℕ × Note). x.1.pitches) b)

out_append : (a b : List (ℕ × Note)) → out (a ++ b) ≡ out a ++ out b
out_append a b = ap (enc_all pitch_bytes) (pitches_append a b) ∙ enc_all_append pitch_bytes (pitches_of a) (pitches_of b)

-- ONE VOICE
kept_by : (v : ℕ) (x : ℕ × Note) (xs : List (ℕ × Note)) (b : Bool) → eqb x.0 v ≡ b → cond b (enc_all pitch_bytes x.1.pitches) [] ++ out (of_voice v xs) ≡ out (of_voice v (x ∷ xs))
unfolding of_voice
kept_by v x xs true e = rw e (sym (enc_all_append pitch_bytes x.1.pitches (pitches_of (filter (λ (x : ℕ × Note). eqb x.0 v) xs))))
kept_by v x xs false e = rw e

module _ (s : List ℕ) where
  voice_out_lem : (v p q : ℕ) (xs : List (ℕ × Note)) → Table note_row note_row_width s p xs → Table pitch_bytes pitch_row_width s q (pitches_of xs) → length (pitches_of xs) < 2 ^ 32
      → voice_out s v p q (length xs) ≡ out (of_voice v xs)
  unfolding voice_out of_voice
  voice_out_lem v p q [] t u l = sym (enc_all_none pitch_bytes)
  voice_out_lem v p q (x ∷ xs) t u l =
      let ps = x.1.pitches in
      let row = row_first s p x xs t in
      let len = length-append ps (pitches_of xs) in
      let n = count_at s p x row (omega arith) in
      let here : part s q (pitch_row_width * length ps) ≡ enc_all pitch_bytes ps = (table_front pitch_bytes pitch_row_width length_pitch ps (pitches_of xs) u).holds in
      let ih =
      voice_out_lem v (p + note_row_width) (q + pitch_row_width * length ps) xs (table_rest note_row note_row_width length_note (x ∷ []) xs (p + note_row_width) (omega arith) t)
      (table_rest pitch_bytes pitch_row_width length_pitch ps (pitches_of xs) (q + pitch_row_width * length ps) refl u)
      (omega arith) in
      rw (byte_voice s p x row, n, here, ih) (kept_by v x xs (eqb x.0 v) refl)

  measure_out : (p q : ℕ) (xs : List (ℕ × Note)) → Table note_row note_row_width s p xs → Table pitch_bytes pitch_row_width s q (pitches_of xs) → length (pitches_of xs) < 2 ^ 32
      → voices_out s p q (length xs) 0 4 ≡ out (by_voice xs)
  unfolding voices_out
  measure_out p q xs t u l =
      let v : (v : ℕ) → voice_out s v p q (length xs) ≡ out (of_voice v xs) = λ v. voice_out_lem v p q xs t u l in
      rw (v 0, v 1, v 2, v 3, append-nil)
      (sym (ap out (by_voice_lem xs) ∙ out_append (of_voice 0 xs) (of_voice 1 xs ++ (of_voice 2 xs ++ of_voice 3 xs)) ∙ rw (out_append (of_voice 1 xs) (of_voice 2 xs ++ of_voice 3 xs), out_append (of_voice 2 xs) (of_voice 3 xs))))

  -- how many
  total_out : (p : ℕ) (xs : List (ℕ × Note)) → Table note_row note_row_width s p xs → length (pitches_of xs) < 2 ^ 32 → pitch_total s p (length xs) ≡ length (pitches_of xs)
  unfolding pitch_total
  total_out p [] t l = refl
  total_out p (x ∷ xs) t l =
      let len = length-append x.1.pitches (pitches_of xs) in
      rw (count_at s p x (row_first s p x xs t) (omega arith), total_out (p + note_row_width) xs (table_rest note_row note_row_width length_note (x ∷ []) xs (p + note_row_width) (omega arith) t) (omega arith)) (sym len)

  -- ALL MEASURES
  pitches_out_lem : (h p q : ℕ) (ms : List Head) (log : List (ℕ × Note)) → Table head_row measure_width s h ms → Table note_row note_row_width s p log → Table pitch_bytes pitch_row_width s q (pitches_of log)
      → All (λ (m : Head). length m.counts ≡ 4) ms → sum notes_in ms ≡ length log → length log < 2 ^ 32 → length (pitches_of log) < 2 ^ 32 → pitches_out s h p q (length ms) ≡ out (in_order ms log)
  unfolding pitches_out in_order
  pitches_out_lem h p q [] log t u w four e l z = sym (enc_all_none pitch_bytes)
  pitches_out_lem h p q (m ∷ ms) log t u w four e l z =
      let k = notes_in m in
      let a = take k log in
      let b = drop k log in
      let n : note_count s h ≡ k = count_out s h m ms t four.0 (omega arith) in
      let front : length a ≡ k = length-take k log ∙ omega arith in
      let cut : pitches_of log ≡ pitches_of a ++ pitches_of b = ap pitches_of (sym (take-append-drop k log)) ∙ pitches_append a b in
      let len = ap length cut ∙ length-append (pitches_of a) (pitches_of b) in
      let w' = subst (Table pitch_bytes pitch_row_width s q) cut w in
      let ta = table_take note_row note_row_width length_note k log u in
      let all = total_out p a ta (omega arith) in
      let first = measure_out p q a ta (table_front pitch_bytes pitch_row_width length_pitch (pitches_of a) (pitches_of b) w') (omega arith) in
      let ih =
      pitches_out_lem (h + measure_width) (p + note_row_width * k) (q + pitch_row_width * length (pitches_of a)) ms b (table_rest head_row measure_width length_head (m ∷ []) ms (h + measure_width) (omega arith) t)
      (table_drop note_row note_row_width length_note k log (p + note_row_width * k) (omega arith) refl u)
      (table_rest pitch_bytes pitch_row_width length_pitch (pitches_of a) (pitches_of b) (q + pitch_row_width * length (pitches_of a)) refl w')
      four.1
      (omega (arith, length-drop k log))
      (omega (arith, length-drop k log))
      (omega arith) in
      (λ i. voices_out s p q (n i) 0 4 ++ pitches_out s (h + measure_width) (p + note_row_width * n i) (q + pitch_row_width * pitch_total s p (n i)) (length ms))
      ∙ (λ i. voices_out s p q (sym front i) 0 4 ++ pitches_out s (h + measure_width) (p + note_row_width * k) (q + pitch_row_width * pitch_total s p (sym front i)) (length ms))
      ∙ (λ i. first i ++ pitches_out s (h + measure_width) (p + note_row_width * k) (q + pitch_row_width * all i) (length ms))
      ∙ (λ i. out (by_voice a) ++ ih i)
      ∙ sym (out_append (by_voice a) (in_order ms b))

-- THE SECTION
pitches_sum : (xs : List (ℕ × Note)) → length (pitches_of xs) ≡ sum (λ (x : ℕ × Note). length x.1.pitches) xs
pitches_sum xs = length_concat (map (λ (x : ℕ × Note). x.1.pitches) xs) ∙ sum_map (λ (x : ℕ × Note). x.1.pitches) length xs

module _ {s : List ℕ} {t : PartTables} {ms : List Head} {log : List (ℕ × Note)} (h : Represents s t ms log) where
  pub pitches_section_lem : pitches_section s t ≡ section pitch_bytes (pitches_of (in_order ms log))
  unfolding section enc_all
  pitches_section_lem =
      let f = h.fits in
      let l : t.pitches.count ≡ length (pitches_of (in_order ms log)) =
      sym (pitches_sum (in_order ms log) ∙ in_order_sum (λ (x : ℕ × Note). length x.1.pitches) ms log f.all_notes_lem f.voices_below ∙ sym (pitches_sum log) ∙ h.pitches_are) in
      let bytes =
      ap (pitches_out s t.measures.at t.notes.at t.pitches.at) (sym h.measures_are)
      ∙ pitches_out_lem s t.measures.at t.notes.at t.pitches.at ms log h.measures_table h.notes_table h.pitches_table f.four_counts f.all_notes_lem (omega (arith, h.few_notes, h.notes_are)) (omega (arith, h.few_pitches, h.pitches_are)) in
      λ i. le32 (l i) ++ bytes i

  -- the notes count as many pitches as the table of pitches has
  pub pitches_total : pitch_total s t.notes.at (total s t.measures.at t.measures.count) ≡ t.pitches.count
  pitches_total =
      ap (pitch_total s t.notes.at) (notes_total h ∙ sym h.notes_are) ∙ total_out s t.notes.at log h.notes_table (omega (arith, h.few_pitches, h.pitches_are)) ∙ h.pitches_are

-- A WRITER OF THESE BYTES writes the section of whatever the tables represent
pub pitches_say : {d e : List ℕ} {r : Option ℕ} {s : List ℕ} {t : PartTables} → WroteIs d (pitches_section s t) e r
    → WroteIs d (pitches_section s t) e r
    × ((ms : List Head) (log : List (ℕ × Note)) → Represents s t ms log → WroteIs d (section pitch_bytes (concat (map (λ (x : ℕ × Note). x.1.pitches) (in_order ms log)))) e r)
pitches_say w = (w, λ ms log h. wrote_as_lem w (pitches_section_lem h))
