-- A TABLE CUT IN TWO.
use Prim.Native.Nat.{ℕ, ◌+◌, ◌-◌, ◌*◌, ◌≤◌}
use mathlib.Core.Path.{◌≡◌, refl, sym, ap, subst, ◌∙◌}
use mathlib.Core.List.{List, [], ◌∷◌, ◌++◌}
use native.Mathlib.Nat.{mul-add}
use native.Mathlib.Omega.{arith}
use lib.ListN.{length, take, drop, length-append, length-take, take-append-drop}
use lib.Seq.{drop_at}
use Rattle.laws.specs.Bytes.{part, enc_all}
use Rattle.laws.proofs.Parts.{drop_part}
use Rattle.laws.proofs.Rows.{enc_all_append, length_enc_all}
use Rattle.part_rows.specs.Table.{Table}
use Rattle.part_rows.proofs.Zipped.{row_here, table_front}

module _ {R : Type 0} (enc : R → List ℕ) (w : ℕ) (wide : (x : R) → length (enc x) ≡ w) {s : List ℕ} {at : ℕ} where
  -- the rows behind the first
  pub table_rest : (a b : List R) (to : ℕ) → to ≡ at + w * length a → Table enc w s at (a ++ b) → Table enc w s to b
  table_rest a b to place t =
      let n = w * length a in
      let e : w * length (a ++ b) - n ≡ w * length b = rw (length-append a b, mul-add w (length a) (length b)) (omega arith) in
      record {
        holds =
            ap (λ (k : ℕ). part s k (w * length b)) place ∙ ap (part s (at + n)) (sym e) ∙ sym (drop_part s at (w * length (a ++ b)) n)
            ∙ ap (drop n) (t.holds ∙ enc_all_append enc a b)
            ∙ drop_at (enc_all enc a) (enc_all enc b) n (length_enc_all enc w wide a);
      }

  -- the first k rows, and the others
  pub table_take : (k : ℕ) (xs : List R) → Table enc w s at xs → Table enc w s at (take k xs)
  table_take k xs t = table_front enc w wide (take k xs) (drop k xs) (subst (Table enc w s at) (sym (take-append-drop k xs)) t)

  pub table_drop : (k : ℕ) (xs : List R) (to : ℕ) → k ≤ length xs → to ≡ at + w * k → Table enc w s at xs → Table enc w s to (drop k xs)
  table_drop k xs to h place t =
      let n : k ≡ length (take k xs) = sym (length-take k xs ∙ omega arith) in
      table_rest (take k xs) (drop k xs) to (place ∙ ap (λ (m : ℕ). at + w * m) n) (subst (Table enc w s at) (sym (take-append-drop k xs)) t)

  -- the first row
  pub table_first : (x : R) (xs : List R) → Table enc w s at (x ∷ xs) → part s (at + w * 0) w ≡ enc x
  table_first x xs t = row_here enc w wide [] x xs t refl
