-- NOTHING SUNG: where no row is written no note has a syllable, and the section is empty.
use Prim.Native.Nat.{ℕ, zero, suc, ◌+◌, ◌*◌}
use mathlib.Core.Path.{◌≡◌, refl, ap, ◌∙◌}
use mathlib.Core.Bool.{Bool, true, false, cond}
use mathlib.Core.List.{List, [], ◌∷◌, ◌++◌, map, append-nil}
use lib.ListN.{get_or}
use Rattle.laws.specs.Bytes.{le32}
use Rattle.laws.proofs.Rows.{enc_all_none}
use Rattle.reader.specs.Codes.{bit}
use Rattle.reader.specs.Lyrics.{Syllable}
use Rattle.reader.specs.Records.{measure_width}
use Rattle.part_rows.specs.Encoded.{note_row_width}
use Rattle.part_measures.specs.Heads.{note_count}
use Rattle.write_notes.specs.declared.PartTables.{PartTables}
use Rattle.lyrics.specs.declared.Sheet.{Sheet}
use Rattle.lyrics.specs.Sheet.{sung_from, heads_in, syllables_in}
use Rattle.write_syllables.specs.Pieces.{piece, pieces}
use Rattle.part_rows.specs.Read.{lead_row, sung_row}
use Rattle.write_lyrics.specs.Out.{sung_rows, rows_out, measures_out, counted, section_out}

no_syllable : (text s : List ℕ) (h : Sheet) → h.count ≡ 0 → (j : ℕ) → get_or (syllables_in text s h) j [] ≡ []
unfolding syllables_in sung_from
no_syllable text s h z j = go (heads_in s h.heads h.sounded) j
  where
    go : (ks : List ℕ) (j : ℕ) → get_or (map (sung_from text s h.log h.count) ks) j [] ≡ []
    go [] j = refl
    go (k ∷ ks) zero = ap (λ (n : ℕ). sung_from text s h.log n k) z
    go (k ∷ ks) (suc j) = go ks j

module _ (texts : Bool) (ws : List (List Syllable)) (e : (j : ℕ) → get_or ws j [] ≡ []) (s : List ℕ) where
  row_silent : (b : Bool) (i j : ℕ) → cond b (pieces texts i (get_or ws j [])) [] ≡ []
  unfolding pieces
  row_silent true i j = ap (pieces texts i) (e j) ∙ enc_all_none (piece texts i)
  row_silent false i j = refl

  rows_silent : (i j p k : ℕ) → rows_out texts ws s i j p k ≡ []
  unfolding rows_out
  rows_silent i j p zero = refl
  rows_silent i j p (suc k) =
      ap (λ (x : List ℕ). x ++ rows_out texts ws s (i + bit (lead_row s p) 1) (j + bit (sung_row s p) 1) (p + note_row_width) k) (row_silent (sung_row s p) i j)
      ∙ rows_silent (i + bit (lead_row s p) 1) (j + bit (sung_row s p) 1) (p + note_row_width) k

  measures_silent : (i j h p n : ℕ) → measures_out texts ws s i j h p n ≡ []
  unfolding measures_out
  measures_silent i j h p zero = refl
  measures_silent i j h p (suc n) =
      ap (λ (x : List ℕ). x ++ measures_out texts ws s (i + note_count s h) (j + sung_rows s p (note_count s h)) (h + measure_width) (p + note_row_width * note_count s h) n) (rows_silent i j p (note_count s h))
      ∙ measures_silent (i + note_count s h) (j + sung_rows s p (note_count s h)) (h + measure_width) (p + note_row_width * note_count s h) n

none_counted_lem : (texts : Bool) → counted texts [] ≡ le32 0
unfolding counted
none_counted_lem true = append-nil (le32 0)
none_counted_lem false = append-nil (le32 0)

pub section_silent : (texts : Bool) (text d : List ℕ) (h : Sheet) (s : List ℕ) (t : PartTables) → h.count ≡ 0 → section_out texts (syllables_in text d h) s t ≡ le32 0
section_silent texts text d h s t z =
    ap (counted texts) (measures_silent texts (syllables_in text d h) (no_syllable text d h z) s 0 0 t.measures.at t.notes.at t.measures.count) ∙ none_counted_lem texts
