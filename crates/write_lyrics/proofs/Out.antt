-- THE LYRICS IN THE ORDER OF THE READING: what the rows give is layout's section.
use Prim.Native.Nat.{ℕ, zero, suc, ◌+◌, ◌-◌, ◌*◌, ◌/◌, ◌^◌, ◌≤◌, ◌<◌}
use mathlib.Core.Path.{◌≡◌, refl, sym, ap, subst, ◌∙◌}
use mathlib.Core.Bool.{Bool, true, false, cond}
use mathlib.Core.List.{List, [], ◌∷◌, ◌++◌, map}
use native.Mathlib.Decide.{dec_lt}
use native.Mathlib.Nat.{add-zero}
use native.Mathlib.Omega.{arith}
use lib.Dec.{eqb}
use lib.Seq.{drop-drop}
use lib.ListN.{length, get_or, take, drop, length-append, length-take, length-drop, take-append-drop, drop_of_length-le, get_or-eq_default}
use Rattle.laws.specs.Lists.{All, concat, sum}
use Rattle.laws.specs.Bytes.{part, splice, enc_all, le32}
use Rattle.laws.proofs.Bools.{by_test, and_both, and_no_left, and_no_right}
use Rattle.laws.proofs.Lists.{map_map, drop_next, concat_singles, filter_yes, filter_no, All-left, All-right}
use Rattle.laws.proofs.Splices.{lent_back}
use Rattle.laws.proofs.Numbers.{length_little}
use Rattle.laws.proofs.Rows.{enc_all_none, enc_all_append, length_enc_all}
use Rattle.standard.specs.Notes.{is_sounded}
use Rattle.reader.specs.State.{Note}
use Rattle.reader.specs.Lyrics.{Syllable}
use Rattle.reader.specs.Codes.{bit}
use Rattle.reader.specs.Records.{is_sung, lyric_bytes, lyrics_of, section, measure_width, lyric_width}
use Rattle.part_layout.specs.Log.{Head, notes_in}
use Rattle.part_layout.specs.Sections.{of_voice, in_order}
use Rattle.reading_records.specs.Widths.{count_width}
use Rattle.part_rows.specs.Table.{Table}
use Rattle.part_rows.specs.Encoded.{note_row, note_row_width}
use Rattle.part_rows.proofs.Bytes.{length_note}
use Rattle.part_rows.proofs.Notes.{row_other, row_rest, row_sung, lead_is, sung_is}
use Rattle.part_measures.specs.Heads.{head_row, note_count}
use Rattle.part_measures.proofs.Heads.{length_head}
use Rattle.std.specs.Prelude.{Some, None}
use Rattle.store_sections.specs.Writes.{WroteIs}
use Rattle.store_sections.proofs.Writes.{count_last}
use Rattle.part_rows.specs.Read.{sounds_at, of_voice_at, lead_row, sung_row}
use Rattle.write_notes.specs.declared.PartTables.{PartTables}
use Rattle.write_notes.specs.Tables.{Represents}
use Rattle.part_rows.proofs.Cuts.{table_rest, table_take, table_drop, table_first}
use Rattle.reader.proofs.CodeLaws.{bit_le}
use Rattle.part_measures.proofs.Counts.{count_out}
use Rattle.write_notes.proofs.Sung.{sung_in, lyrics_none, lyrics_passed, lyrics_taken, lyrics_measure}
use Rattle.write_syllables.specs.Pieces.{piece, pieces}
use Rattle.write_syllables.proofs.Pieces.{length_record}
use Rattle.write_lyrics.specs.Out.{sung_rows, sung_total, rows_out, measures_out, count_of, counted, section_out}

-- STEPS, as the loops take them: row r of k
sung_step : (s : List ℕ) (p k r : ℕ) → r < k → sung_rows s (p + note_row_width * r) (k - r) ≡ bit (sung_row s (p + note_row_width * r)) 1 + sung_rows s (p + note_row_width * (r + 1)) (k - (r + 1))
unfolding sung_rows
sung_step s p k r h =
    let e : k - r ≡ suc (k - (r + 1)) = omega arith in
    let f : p + note_row_width * r + note_row_width ≡ p + note_row_width * (r + 1) = omega arith in
    rw (e, sung_rows, f)

pub sung_first : (s : List ℕ) (p k : ℕ) → sung_rows s (p + note_row_width * 0) (k - 0) ≡ sung_rows s p k
sung_first s p k =
    let e : k - 0 ≡ k = omega arith in
    let f : p + note_row_width * 0 ≡ p = omega arith in
    λ i. sung_rows s (f i) (e i)

pub sung_other : (s : List ℕ) (p k r : ℕ) → r < k → sung_row s (p + note_row_width * r) ≡ false → sung_rows s (p + note_row_width * r) (k - r) ≡ sung_rows s (p + note_row_width * (r + 1)) (k - (r + 1))
unfolding bit
sung_other s p k r h e = sung_step s p k r h ∙ rw e (omega arith)

pub sung_one : (s : List ℕ) (p k r : ℕ) → r < k → sung_row s (p + note_row_width * r) ≡ true → sung_rows s (p + note_row_width * r) (k - r) ≡ 1 + sung_rows s (p + note_row_width * (r + 1)) (k - (r + 1))
unfolding bit
sung_one s p k r h e = sung_step s p k r h ∙ rw e

pub sung_none : (s : List ℕ) (p k : ℕ) → k ≡ 0 → sung_rows s p k ≡ 0
unfolding sung_rows
sung_none s p k h = rw h

pub sung_low : (s : List ℕ) (p k : ℕ) → sung_rows s p k ≤ k
unfolding sung_rows
sung_low s p zero = omega arith
sung_low s p (suc k) = omega (arith, bit_le (sung_row s p) 1, sung_low s (p + note_row_width) k)

-- measure m of n, which has k notes
pub sung_total_step : (s : List ℕ) (h p n m k : ℕ) → m < n → k ≡ note_count s (h + measure_width * m)
    → sung_total s (h + measure_width * m) p (n - m) ≡ sung_rows s p k + sung_total s (h + measure_width * (m + 1)) (p + note_row_width * k) (n - (m + 1))
unfolding sung_total
sung_total_step s h p n m k l x =
    let e : n - m ≡ suc (n - (m + 1)) = omega arith in
    let f : h + measure_width * m + measure_width ≡ h + measure_width * (m + 1) = omega arith in
    rw (e, sung_total, f, x)

pub sung_total_first : (s : List ℕ) (h p n : ℕ) → sung_total s (h + measure_width * 0) p (n - 0) ≡ sung_total s h p n
sung_total_first s h p n =
    let e : n - 0 ≡ n = omega arith in
    let f : h + measure_width * 0 ≡ h = omega arith in
    λ i. sung_total s (f i) p (e i)

pub sung_total_none : (s : List ℕ) (h p n : ℕ) → n ≡ 0 → sung_total s h p n ≡ 0
unfolding sung_total
sung_total_none s h p n l = rw l

module _ (b : Bool) (ws : List (List Syllable)) (s : List ℕ) where
  rows_step : (i j p k r : ℕ) → r < k
      → rows_out b ws s i j (p + note_row_width * r) (k - r)
      ≡ cond (sung_row s (p + note_row_width * r)) (pieces b i (get_or ws j [])) []
      ++ rows_out b ws s (i + bit (lead_row s (p + note_row_width * r)) 1) (j + bit (sung_row s (p + note_row_width * r)) 1) (p + note_row_width * (r + 1)) (k - (r + 1))
  unfolding rows_out
  rows_step i j p k r h =
      let e : k - r ≡ suc (k - (r + 1)) = omega arith in
      let f : p + note_row_width * r + note_row_width ≡ p + note_row_width * (r + 1) = omega arith in
      rw (e, rows_out, f)

  -- of another voice
  pub rows_other : (i j p k r : ℕ) → r < k → of_voice_at s 0 (p + note_row_width * r) ≡ false → rows_out b ws s i j (p + note_row_width * r) (k - r) ≡ rows_out b ws s i j (p + note_row_width * (r + 1)) (k - (r + 1))
  unfolding bit lead_row
  rows_other i j p k r h n = rows_step i j p k r h ∙ rw (row_other s (p + note_row_width * r) n, n, add-zero i, add-zero j)

  -- a rest
  pub rows_rest : (i j p k r : ℕ) → r < k → of_voice_at s 0 (p + note_row_width * r) ≡ true → sounds_at s (p + note_row_width * r) ≡ false
      → rows_out b ws s i j (p + note_row_width * r) (k - r) ≡ rows_out b ws s (i + 1) j (p + note_row_width * (r + 1)) (k - (r + 1))
  unfolding bit lead_row
  rows_rest i j p k r h v n = rows_step i j p k r h ∙ rw (row_rest s (p + note_row_width * r) n, v, add-zero j)

  -- one that is sung
  pub rows_sung : (i j p k r : ℕ) → r < k → of_voice_at s 0 (p + note_row_width * r) ≡ true → sounds_at s (p + note_row_width * r) ≡ true
      → rows_out b ws s i j (p + note_row_width * r) (k - r) ≡ pieces b i (get_or ws j []) ++ rows_out b ws s (i + 1) (j + 1) (p + note_row_width * (r + 1)) (k - (r + 1))
  unfolding bit lead_row
  rows_sung i j p k r h v n = rows_step i j p k r h ∙ rw (row_sung s (p + note_row_width * r) v n, v)

  pub rows_none : (i j p k r : ℕ) → k ≤ r → rows_out b ws s i j p (k - r) ≡ []
  unfolding rows_out
  rows_none i j p k r h = let e : k - r ≡ 0 = omega arith in rw e

  pub measures_step : (i j h p n m k q : ℕ) → m < n → k ≡ note_count s (h + measure_width * m) → q ≡ sung_rows s p k
      → measures_out b ws s i j (h + measure_width * m) p (n - m) ≡ rows_out b ws s i j p k ++ measures_out b ws s (i + k) (j + q) (h + measure_width * (m + 1)) (p + note_row_width * k) (n - (m + 1))
  unfolding measures_out
  measures_step i j h p n m k q l x y =
      let e : n - m ≡ suc (n - (m + 1)) = omega arith in
      let f : h + measure_width * m + measure_width ≡ h + measure_width * (m + 1) = omega arith in
      rw (e, measures_out, f, y, x)

  pub measures_none : (i j h p n m : ℕ) → n ≤ m → measures_out b ws s i j h p (n - m) ≡ []
  unfolding measures_out
  measures_none i j h p n m l = let e : n - m ≡ 0 = omega arith in rw e

-- WHAT IS WRITTEN FOR THE LYRICS
abbrev pub out : Bool → ℕ × Syllable → List ℕ
out b x = piece b x.0 x.1

pieces_out : (b : Bool) (i : ℕ) (ys : List Syllable) → pieces b i ys ≡ enc_all (out b) (map (λ y. (i, y)) ys)
unfolding pieces enc_all
pieces_out b i ys = ap concat (sym (map_map (λ y. (i, y)) (out b) ys))

lyrics_nil : (i : ℕ) (ws : List (List Syllable)) → lyrics_of i [] ws ≡ []
unfolding lyrics_of
lyrics_nil i ws = refl

-- a note that takes the next syllables, if there are any
lyrics_next : (i j : ℕ) (x : ℕ × Note) (xs : List (ℕ × Note)) (ws : List (List Syllable)) → is_sung x ≡ true
    → lyrics_of i (x ∷ xs) (drop j ws) ≡ map (λ y. (i, y)) (get_or ws j []) ++ lyrics_of (i + 1) xs (drop (j + 1) ws)
lyrics_next i j x xs ws e = go (dec_lt j (length ws))
  where
    one : suc i ≡ i + 1
    one = omega arith

    go : Dec (j < length ws) → lyrics_of i (x ∷ xs) (drop j ws) ≡ map (λ y. (i, y)) (get_or ws j []) ++ lyrics_of (i + 1) xs (drop (j + 1) ws)
    go (yes l) =
        ap (lyrics_of i (x ∷ xs)) (drop_next ws j [] l) ∙ lyrics_taken i x xs (get_or ws j []) (drop (j + 1) ws) e
        ∙ ap (λ (k : ℕ). map (λ y. (i, y)) (get_or ws j []) ++ lyrics_of k xs (drop (j + 1) ws)) one
    go (no l) =
        let n : length ws ≤ j = omega arith in
        let a : drop j ws ≡ [] = drop_of_length-le ws n in
        let m : length ws ≤ j + 1 = omega arith in
        let b : drop (j + 1) ws ≡ [] = drop_of_length-le ws m in
        ap (lyrics_of i (x ∷ xs)) a ∙ lyrics_none i (x ∷ xs)
        ∙ sym ((λ k. map (λ y. (i, y)) (get_or-eq_default ws [] {n = j} n k) ++ lyrics_of (i + 1) xs (b k)) ∙ lyrics_none (i + 1) xs)

-- A ROW OF A TABLE
module _ (s : List ℕ) (p : ℕ) (x : ℕ × Note) (xs : List (ℕ × Note)) (t : Table note_row note_row_width s p (x ∷ xs)) where
  row : part s p note_row_width ≡ note_row x
  row = let place : p + note_row_width * 0 ≡ p = omega arith in ap (λ (k : ℕ). part s k note_row_width) (sym place) ∙ table_first note_row note_row_width length_note x xs t

  behind : Table note_row note_row_width s (p + note_row_width) xs
  behind = table_rest note_row note_row_width length_note (x ∷ []) xs (p + note_row_width) (omega arith) t

-- A NOTE of another voice, a rest, and one that is sung
pub note_case {ℓ} : {P : Type ℓ} (x : ℕ × Note) → (eqb x.0 0 ≡ false → is_sung x ≡ false → P) → (eqb x.0 0 ≡ true → is_sung x ≡ false → P) → (eqb x.0 0 ≡ true → is_sung x ≡ true → P) → P
unfolding is_sung
note_case x other quiet sung =
    let a = eqb x.0 0 in
    let b = is_sounded x.1.kind in
    by_test a (λ v. by_test b (λ k. sung v (and_both a b v k)) (λ k. quiet v (and_no_right a b k))) (λ v. other v (and_no_left a b v))

voice_own : (x : ℕ × Note) (xs : List (ℕ × Note)) → eqb x.0 0 ≡ true → of_voice 0 (x ∷ xs) ≡ x ∷ of_voice 0 xs
unfolding of_voice
voice_own x xs e = filter_yes _ x xs e

voice_other : (x : ℕ × Note) (xs : List (ℕ × Note)) → eqb x.0 0 ≡ false → of_voice 0 (x ∷ xs) ≡ of_voice 0 xs
unfolding of_voice
voice_other x xs e = filter_no _ x xs e

-- how many are sung
bit_yes : {b : Bool} (n : ℕ) → b ≡ true → bit b 1 + n ≡ suc n
unfolding bit
bit_yes n e = rw e (omega arith)

bit_no : {b : Bool} (n : ℕ) → b ≡ false → bit b 1 + n ≡ n
unfolding bit
bit_no n e = rw e (omega arith)

sung_out : (s : List ℕ) (p : ℕ) (xs : List (ℕ × Note)) → Table note_row note_row_width s p xs → sung_rows s p (length xs) ≡ sung_in (of_voice 0 xs)
unfolding sung_rows of_voice
sung_out s p [] t = refl
sung_out s p (x ∷ xs) t =
    let ih = sung_out s (p + note_row_width) xs (behind s p x xs t) in
    let e = sung_is s p x (row s p x xs t) in
    note_case x (λ v n. bit_no _ (e ∙ n) ∙ ih ∙ ap sung_in (sym (voice_other x xs v)))
    (λ v n. bit_no _ (e ∙ n) ∙ ih ∙ ap length (sym (filter_no is_sung x (of_voice 0 xs) n)) ∙ ap sung_in (sym (voice_own x xs v)))
    (λ v y. bit_yes _ (e ∙ y) ∙ ap suc ih ∙ ap length (sym (filter_yes is_sung x (of_voice 0 xs) y)) ∙ ap sung_in (sym (voice_own x xs v)))

-- ONE MEASURE
module _ (b : Bool) (ws : List (List Syllable)) (s : List ℕ) where
  abbrev shown : ℕ → ℕ → List (ℕ × Note) → List ℕ
  shown i j xs = enc_all (out b) (lyrics_of i xs (drop j ws))

  shown_passed : (i j : ℕ) (x : ℕ × Note) (xs : List (ℕ × Note)) → is_sung x ≡ false → shown (i + 1) j xs ≡ shown i j (x ∷ xs)
  shown_passed i j x xs n =
      let one : i + 1 ≡ suc i = omega arith in
      ap (λ (k : ℕ). shown k j xs) one ∙ ap (enc_all (out b)) (sym (lyrics_passed i x xs (drop j ws) n))

  shown_next : (i j : ℕ) (x : ℕ × Note) (xs : List (ℕ × Note)) → is_sung x ≡ true → pieces b i (get_or ws j []) ++ shown (i + 1) (j + 1) xs ≡ shown i j (x ∷ xs)
  shown_next i j x xs y =
      ap (λ (l : List ℕ). l ++ shown (i + 1) (j + 1) xs) (pieces_out b i (get_or ws j []))
      ∙ sym (enc_all_append (out b) (map (λ y. (i, y)) (get_or ws j [])) (lyrics_of (i + 1) xs (drop (j + 1) ws)))
      ∙ ap (enc_all (out b)) (sym (lyrics_next i j x xs ws y))

  -- the rest of the rows, by what the first is
  after : (i j p k : ℕ) (u v : Bool) → lead_row s p ≡ u → sung_row s p ≡ v
      → rows_out b ws s i j p (suc k) ≡ cond v (pieces b i (get_or ws j [])) [] ++ rows_out b ws s (i + bit u 1) (j + bit v 1) (p + note_row_width) k
  unfolding rows_out
  after i j p k u v e f = λ m. cond (f m) (pieces b i (get_or ws j [])) [] ++ rows_out b ws s (i + bit (e m) 1) (j + bit (f m) 1) (p + note_row_width) k

  rows_out_lem : (i j p : ℕ) (xs : List (ℕ × Note)) → Table note_row note_row_width s p xs → rows_out b ws s i j p (length xs) ≡ shown i j (of_voice 0 xs)
  unfolding rows_out of_voice bit
  rows_out_lem i j p [] t = sym (ap (enc_all (out b)) (lyrics_nil i (drop j ws)) ∙ enc_all_none (out b))
  rows_out_lem i j p (x ∷ xs) t =
      let u = lead_is s p x (row s p x xs t) in
      let v = sung_is s p x (row s p x xs t) in
      let ih : (i j : ℕ) → rows_out b ws s i j (p + note_row_width) (length xs) ≡ shown i j (of_voice 0 xs) = λ i j. rows_out_lem i j (p + note_row_width) xs (behind s p x xs t) in
      note_case x (λ e n. after i j p (length xs) false false (u ∙ e) (v ∙ n) ∙ rw (add-zero i, add-zero j) (ih i j ∙ ap (shown i j) (sym (voice_other x xs e))))
      (λ e n. after i j p (length xs) true false (u ∙ e) (v ∙ n) ∙ rw (add-zero j) (ih (i + 1) j ∙ shown_passed i j x (of_voice 0 xs) n ∙ ap (shown i j) (sym (voice_own x xs e))))
      (λ e y. after i j p (length xs) true true (u ∙ e) (v ∙ y) ∙ ap (λ (l : List ℕ). pieces b i (get_or ws j []) ++ l) (ih (i + 1) (j + 1)) ∙ shown_next i j x (of_voice 0 xs) y
      ∙ ap (shown i j) (sym (voice_own x xs e)))

  -- ALL MEASURES
  measures_out_lem : (i j h p : ℕ) (ms : List Head) (log : List (ℕ × Note)) → Table head_row measure_width s h ms → Table note_row note_row_width s p log → All (λ (m : Head). length m.counts ≡ 4) ms
      → sum notes_in ms ≡ length log → length log < 2 ^ 32 → All (λ (x : ℕ × Note). x.0 < 4) log → measures_out b ws s i j h p (length ms) ≡ shown i j (in_order ms log)
  unfolding measures_out in_order
  measures_out_lem i j h p [] log t u four e l low = sym (ap (enc_all (out b)) (lyrics_nil i (drop j ws)) ∙ enc_all_none (out b))
  measures_out_lem i j h p (m ∷ ms) log t u four e l low =
      let k = notes_in m in
      let a = take k log in
      let z = drop k log in
      let both = subst (All (λ (x : ℕ × Note). x.0 < 4)) (sym (take-append-drop k log)) low in
      let n : note_count s h ≡ k = count_out s h m ms t four.0 (omega arith) in
      let front : length a ≡ k = length-take k log ∙ omega arith in
      let ta = table_take note_row note_row_width length_note k log u in
      let here : sung_rows s p k ≡ sung_in (of_voice 0 a) = ap (sung_rows s p) (sym front) ∙ sung_out s p a ta in
      let first : rows_out b ws s i j p k ≡ shown i j (of_voice 0 a) = ap (rows_out b ws s i j p) (sym front) ∙ rows_out_lem i j p a ta in
      let ih =
      measures_out_lem (i + k) (j + sung_in (of_voice 0 a)) (h + measure_width) (p + note_row_width * k) ms z (table_rest head_row measure_width length_head (m ∷ []) ms (h + measure_width) (omega arith) t)
      (table_drop note_row note_row_width length_note k log (p + note_row_width * k) (omega arith) refl u)
      four.1
      (omega (arith, length-drop k log))
      (omega (arith, length-drop k log))
      (All-right _ a z both) in
      (λ q. rows_out b ws s i j p (n q) ++ measures_out b ws s (i + n q) (j + sung_rows s p (n q)) (h + measure_width) (p + note_row_width * n q) (length ms))
      ∙ (λ q. first q ++ measures_out b ws s (i + k) (j + here q) (h + measure_width) (p + note_row_width * k) (length ms))
      ∙ (λ q. shown i j (of_voice 0 a) ++ ih q)
      ∙ (λ q. shown i j (of_voice 0 a) ++ enc_all (out b) (lyrics_of (i + sym front q) (in_order ms z) (sym (drop-drop (sung_in (of_voice 0 a)) j ws) q)))
      ∙ sym (enc_all_append (out b) (lyrics_of i (of_voice 0 a) (drop j ws)) (lyrics_of (i + length a) (in_order ms z) (drop (sung_in (of_voice 0 a)) (drop j ws))))
      ∙ ap (enc_all (out b)) (sym (lyrics_measure i a (in_order ms z) (drop j ws) (All-left _ a z both)))

-- THE SECTION
abbrev shown_in : Bool → List (ℕ × Syllable) → List ℕ
shown_in b ls = counted b (enc_all (out b) ls)

records_section : (ls : List (ℕ × Syllable)) → shown_in false ls ≡ section (λ (x : ℕ × Syllable). lyric_bytes x.0 x.1) ls
unfolding section enc_all counted
records_section ls =
    let n : length (enc_all (out false) ls) ≡ lyric_width * length ls = length_enc_all (out false) lyric_width (λ x. length_record x.0 x.1) ls in
    let e : length (enc_all (out false) ls) / lyric_width ≡ length ls = omega (arith, n) in
    ap (λ (k : ℕ). le32 k ++ enc_all (out false) ls) e

texts_section : (ls : List (ℕ × Syllable)) → shown_in true ls ≡ section (λ (c : ℕ). c ∷ []) (concat (map (λ (x : ℕ × Syllable). x.1.text) ls))
unfolding section enc_all counted
texts_section ls = let ts = concat (map (λ (x : ℕ × Syllable). x.1.text) ls) in ap (λ (l : List ℕ). le32 (length ts) ++ l) (sym (concat_singles ts))

section_out_lem : (b : Bool) (ws : List (List Syllable)) {s : List ℕ} {t : PartTables} {ms : List Head} {log : List (ℕ × Note)} → Represents s t ms log
    → section_out b ws s t ≡ shown_in b (lyrics_of 0 (in_order ms log) ws)
section_out_lem b ws {s} {t} {ms} {log} h =
    let f = h.fits in
    let bytes : measures_out b ws s 0 0 t.measures.at t.notes.at t.measures.count ≡ enc_all (out b) (lyrics_of 0 (in_order ms log) ws) =
    ap (measures_out b ws s 0 0 t.measures.at t.notes.at) (sym h.measures_are)
    ∙ measures_out_lem b ws s 0 0 t.measures.at t.notes.at ms log h.measures_table h.notes_table f.four_counts f.all_notes_lem (omega (arith, h.few_notes, h.notes_are)) f.voices_below in
    ap (counted b) bytes

-- of whatever the tables represent
pub lyrics_section : (ws : List (List Syllable)) {s : List ℕ} {t : PartTables} {ms : List Head} {log : List (ℕ × Note)} → Represents s t ms log
    → section_out false ws s t ≡ section (λ (x : ℕ × Syllable). lyric_bytes x.0 x.1) (lyrics_of 0 (in_order ms log) ws)
lyrics_section ws {ms = ms} {log = log} h = section_out_lem false ws h ∙ records_section (lyrics_of 0 (in_order ms log) ws)

pub text_section : (ws : List (List Syllable)) {s : List ℕ} {t : PartTables} {ms : List Head} {log : List (ℕ × Note)} → Represents s t ms log
    → section_out true ws s t ≡ section (λ (c : ℕ). c ∷ []) (concat (map (λ (x : ℕ × Syllable). x.1.text) (lyrics_of 0 (in_order ms log) ws)))
text_section ws {ms = ms} {log = log} h = section_out_lem true ws h ∙ texts_section (lyrics_of 0 (in_order ms log) ws)

-- as it is written, its count last
module _ (b : Bool) (bs : List ℕ) where
  counted_length : length (counted b bs) ≡ count_width + length bs
  unfolding counted
  counted_length = length-append (le32 (count_of b (length bs))) bs ∙ omega (arith, length_little 4 (count_of b (length bs)))

  pub counted_short : {d e : List ℕ} → length d < count_width → WroteIs d (counted b bs) e None
  counted_short h = record { says = omega (arith, counted_length) }

  pub counted_none : (d : List ℕ) {e f : List ℕ} → count_width ≤ length d → WroteIs (take (length d - count_width) (drop count_width d)) bs f None → WroteIs d (counted b bs) e None
  counted_none d h g =
      let room = simp (length-take, length-drop) at g.says in
      record { says = omega (arith, counted_length, room) }

  pub counted_fits : (d : List ℕ) {f : List ℕ} {len : ℕ} → count_width ≤ length d → WroteIs (take (length d - count_width) (drop count_width d)) bs f (Some len) → count_width + len ≤ length d
  counted_fits d h g =
      let (p, q, r) = g.says in
      let room = simp (length-take, length-drop) at q in
      omega (arith, room)

  pub counted_wrote : (d : List ℕ) {e f : List ℕ} (len low count : ℕ) → count_width ≤ length d → WroteIs (take (length d - count_width) (drop count_width d)) bs f (Some len) → le32 low ≡ le32 count
      → count ≡ count_of b len → e ≡ splice (take count_width d ++ (f ++ drop (length d - count_width) (drop count_width d))) 0 (le32 low) → WroteIs d (counted b bs) e (Some (count_width + len))
  unfolding counted
  counted_wrote d {e} {f} len low count h g l c p =
      let (q, room, r) = g.says in
      let fits = counted_fits d h g in
      let back = lent_back d count_width (length d - count_width) f 0 bs r (omega arith) in
      let number : le32 low ≡ le32 (count_of b (length bs)) = l ∙ ap le32 c ∙ ap (λ (k : ℕ). le32 (count_of b k)) q in
      let w = count_last bs (count_of b (length bs)) back (p ∙ ap (splice (take count_width d ++ (f ++ drop (length d - count_width) (drop count_width d))) 0) number) (omega arith) in
      subst (λ (k : ℕ). WroteIs d (le32 (count_of b (length bs)) ++ bs) e (Some (count_width + k))) (sym q) w
