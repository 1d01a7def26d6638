-- ROWS OF VOICE 0: measure by measure is row by row.
use Prim.Native.Nat.{ℕ, zero, suc, ◌+◌, ◌*◌}
use mathlib.Core.Path.{◌≡◌, refl, sym, ap, subst, ◌∙◌}
use mathlib.Core.Bool.{Bool, true, cond}
use mathlib.Core.List.{List, [], ◌++◌, append_assoc}
use native.Mathlib.Omega.{arith}
use lib.ListN.{get_or}
use Rattle.reader.specs.Codes.{bit}
use Rattle.reader.specs.Lyrics.{Syllable}
use Rattle.reader.specs.Records.{measure_width}
use Rattle.part_rows.specs.Encoded.{note_row_width}
use Rattle.part_rows.specs.Read.{of_voice_at, lead_row, sung_row}
use Rattle.part_measures.specs.Heads.{note_count, total}
use Rattle.write_notes.specs.Out.{leads}
use Rattle.write_notes.proofs.Leads.{lead_first, lead_rest, leads_cut}
use Rattle.write_syllables.specs.Pieces.{pieces}
use Rattle.std.specs.Prelude.{Option}
use Rattle.write_lyrics.specs.declared.Passed.{Passed}
use Rattle.write_lyrics.specs.Out.{sung_rows, sung_total, rows_out, measures_out, PassedIs}

-- how many are sung: the first a rows, and the c others
sung_cut : (s : List ℕ) (p t a c : ℕ) → t ≡ a + c → sung_rows s p t ≡ sung_rows s p a + sung_rows s (p + note_row_width * a) c
unfolding sung_rows
sung_cut s p t zero c q =
    let f : p + note_row_width * 0 ≡ p = omega arith in
    let g : t ≡ c = omega arith in
    rw (f, g) (omega arith)
sung_cut s p t (suc a) c q =
    let g : t ≡ suc (a + c) = omega arith in
    let f : p + note_row_width * suc a ≡ p + note_row_width + note_row_width * a = omega arith in
    rw (g, f, sung_rows) (omega (arith, sung_cut s (p + note_row_width) (a + c) a c refl))

sung_measures : (s : List ℕ) (h p n t : ℕ) → t ≡ total s h n → sung_rows s p t ≡ sung_total s h p n
unfolding sung_rows sung_total total
sung_measures s h p zero t q = rw q
sung_measures s h p (suc n) t q =
    let k = note_count s h in
    let r = total s (h + measure_width) n in
    sung_cut s p t k r q ∙ ap (λ (m : ℕ). sung_rows s p k + m) (sung_measures s (h + measure_width) (p + note_row_width * k) n r refl)

module _ (b : Bool) (ws : List (List Syllable)) (s : List ℕ) where
  is_lead : (p : ℕ) → of_voice_at s 0 p ≡ true → lead_row s p ≡ true
  unfolding lead_row
  is_lead p e = e

  lead_index : (i p a : ℕ) → lead_row s p ≡ true → i + bit (lead_row s p) 1 + a ≡ i + suc a
  unfolding bit
  lead_index i p a e = rw e (omega arith)

  rows_cut : (i j p t a c : ℕ) → t ≡ a + c → leads s p a ≡ true → rows_out b ws s i j p t ≡ rows_out b ws s i j p a ++ rows_out b ws s (i + a) (j + sung_rows s p a) (p + note_row_width * a) c
  unfolding rows_out sung_rows
  rows_cut i j p t zero c q e =
      let f : p + note_row_width * 0 ≡ p = omega arith in
      let g : t ≡ c = omega arith in
      let x : i + 0 ≡ i = omega arith in
      let y : j + 0 ≡ j = omega arith in
      rw (f, g, x, y)
  rows_cut i j p t (suc a) c q e =
      let g : t ≡ suc (a + c) = omega arith in
      let f : p + note_row_width + note_row_width * a ≡ p + note_row_width * suc a = omega arith in
      let here = cond (sung_row s p) (pieces b i (get_or ws j [])) [] in
      let i' = i + bit (lead_row s p) 1 in
      let j' = j + bit (sung_row s p) 1 in
      let p' = p + note_row_width in
      let x : i' + a ≡ i + suc a = lead_index i p a (is_lead p (lead_first s p a e)) in
      let y : j' + sung_rows s p' a ≡ j + (bit (sung_row s p) 1 + sung_rows s p' a) = omega arith in
      ap (rows_out b ws s i j p) g
      ∙ ap (λ (l : List ℕ). here ++ l) (rows_cut i' j' p' (a + c) a c refl (lead_rest s p a e))
      ∙ sym (append_assoc here (rows_out b ws s i' j' p' a) (rows_out b ws s (i' + a) (j' + sung_rows s p' a) (p' + note_row_width * a) c))
      ∙ (λ m. (here ++ rows_out b ws s i' j' p' a) ++ rows_out b ws s (x m) (y m) (f m) c)

  lead_measures : (i j h p n t : ℕ) → t ≡ total s h n → leads s p t ≡ true → rows_out b ws s i j p t ≡ measures_out b ws s i j h p n
  unfolding rows_out measures_out total
  lead_measures i j h p zero t q e = rw q
  lead_measures i j h p (suc n) t q e =
      let k = note_count s h in
      let r = total s (h + measure_width) n in
      let (x, y) = leads_cut s p t k r q e in
      rows_cut i j p t k r q x ∙ ap (λ (l : List ℕ). rows_out b ws s i j p k ++ l) (lead_measures (i + k) (j + sung_rows s p k) (h + measure_width) (p + note_row_width * k) n r refl y)

  -- a writer of all rows writes all measures
  pub passed_all : {d e : List ℕ} {r : Option Passed} (h p n t : ℕ) → t ≡ total s h n → leads s p t ≡ true → PassedIs d (rows_out b ws s 0 0 p t) e (0 + sung_rows s p t) r → PassedIs d (measures_out b ws s 0 0 h p n) e (sung_total s h p n) r
  passed_all {d} {e} {r} h p n t q l w =
      let count : 0 + sung_rows s p t ≡ sung_total s h p n = omega (arith, sung_measures s h p n t q) in
      subst (λ (k : ℕ). PassedIs d (measures_out b ws s 0 0 h p n) e k r) count (subst (λ (x : List ℕ). PassedIs d x e (0 + sung_rows s p t) r) (lead_measures 0 0 h p n t q l) w)
