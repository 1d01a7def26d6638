-- TEXTS depend on no note's index: measure by measure is note by note of those that are sung.
use Prim.Native.Nat.{ℕ, zero, suc, ◌+◌, ◌-◌, ◌*◌, ◌≤◌, ◌<◌}
use mathlib.Core.Path.{◌≡◌, refl, sym, ap, ◌∙◌}
use mathlib.Core.Bool.{Bool, true, false, cond}
use mathlib.Core.List.{List, [], ◌++◌, append_assoc}
use native.Mathlib.Omega.{arith}
use lib.ListN.{get_or}
use Rattle.reader.specs.Codes.{bit}
use Rattle.reader.specs.Lyrics.{Syllable}
use Rattle.reader.specs.Records.{measure_width}
use Rattle.part_rows.specs.Encoded.{note_row_width}
use Rattle.part_measures.specs.Heads.{note_count}
use Rattle.write_notes.specs.declared.PartTables.{PartTables}
use Rattle.write_syllables.specs.Pieces.{pieces}
use Rattle.part_rows.specs.Read.{lead_row, sung_row}
use Rattle.write_lyrics.specs.Out.{sung_rows, sung_total, rows_out, measures_out, texts_out, counted, section_out}

module _ (ws : List (List Syllable)) where
  texts_cut : (j a c : ℕ) → texts_out ws j (a + c) ≡ texts_out ws j a ++ texts_out ws (j + a) c
  unfolding texts_out
  texts_cut j zero c =
      let g : 0 + c ≡ c = omega arith in
      let x : j + 0 ≡ j = omega arith in
      rw (g, x)
  texts_cut j (suc a) c =
      let g : suc a + c ≡ suc (a + c) = omega arith in
      let x : j + suc a ≡ j + 1 + a = omega arith in
      let here = pieces true 0 (get_or ws j []) in
      rw (g, x, texts_out) (ap (λ (l : List ℕ). here ++ l) (texts_cut (j + 1) a c) ∙ sym (append_assoc here (texts_out ws (j + 1) a) (texts_out ws (j + 1 + a) c)))

  pub texts_all : (k : ℕ) → texts_out ws 0 k ≡ texts_out ws 0 (k - 0)
  texts_all k = let e : k ≡ k - 0 = omega arith in ap (texts_out ws 0) e

  pub texts_step : (j k : ℕ) → j < k → texts_out ws j (k - j) ≡ pieces true 0 (get_or ws j []) ++ texts_out ws (j + 1) (k - (j + 1))
  unfolding texts_out
  texts_step j k h = let e : k - j ≡ suc (k - (j + 1)) = omega arith in rw (e, texts_out)

  pub texts_none : (j k : ℕ) → k ≤ j → texts_out ws j (k - j) ≡ []
  unfolding texts_out
  texts_none j k h = let e : k - j ≡ 0 = omega arith in rw e

  index_free : (i : ℕ) (ys : List Syllable) → pieces true i ys ≡ pieces true 0 ys
  unfolding pieces
  index_free i ys = refl

  module _ (s : List ℕ) where
    row_texts : (i j m : ℕ) (b : Bool) → cond b (pieces true i (get_or ws j [])) [] ++ texts_out ws (j + bit b 1) m ≡ texts_out ws j (bit b 1 + m)
    unfolding texts_out bit
    row_texts i j m true = let e : 1 + m ≡ suc m = omega arith in rw (e, texts_out) (ap (λ (l : List ℕ). l ++ texts_out ws (j + 1) m) (index_free i (get_or ws j [])))
    row_texts i j m false =
        let e : 0 + m ≡ m = omega arith in
        let x : j + 0 ≡ j = omega arith in
        rw (e, x)

    rows_texts : (i j p k : ℕ) → rows_out true ws s i j p k ≡ texts_out ws j (sung_rows s p k)
    unfolding rows_out texts_out sung_rows
    rows_texts i j p zero = refl
    rows_texts i j p (suc k) =
        ap (λ (l : List ℕ). cond (sung_row s p) (pieces true i (get_or ws j [])) [] ++ l) (rows_texts (i + bit (lead_row s p) 1) (j + bit (sung_row s p) 1) (p + note_row_width) k)
        ∙ row_texts i j (sung_rows s (p + note_row_width) k) (sung_row s p)

    measures_texts : (i j h p n : ℕ) → measures_out true ws s i j h p n ≡ texts_out ws j (sung_total s h p n)
    unfolding measures_out texts_out sung_total
    measures_texts i j h p zero = refl
    measures_texts i j h p (suc n) =
        let k = note_count s h in
        let q = sung_rows s p k in
        (λ m. rows_texts i j p k m ++ measures_texts (i + k) (j + q) (h + measure_width) (p + note_row_width * k) n m) ∙ sym (texts_cut j q (sung_total s (h + measure_width) (p + note_row_width * k) n))

    pub section_texts : (t : PartTables) (sung : ℕ) → sung ≡ sung_total s t.measures.at t.notes.at t.measures.count → counted true (texts_out ws 0 sung) ≡ section_out true ws s t
    section_texts t sung e = ap (λ (k : ℕ). counted true (texts_out ws 0 k)) e ∙ ap (counted true) (sym (measures_texts 0 0 t.measures.at t.notes.at t.measures.count))
