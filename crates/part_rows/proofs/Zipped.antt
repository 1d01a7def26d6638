-- A ROW OF A TABLE between those before it and those behind it.
use Prim.Native.Nat.{ℕ, ◌+◌, ◌*◌, ◌≤◌, ◌<◌}
use mathlib.Core.Path.{◌≡◌, refl, sym, ap, subst, ◌∙◌}
use mathlib.Core.List.{List, [], ◌∷◌, ◌++◌}
use native.Mathlib.Nat.{mul-add}
use native.Mathlib.Omega.{arith}
use lib.ListN.{length, get_or, take, length-append}
use lib.Seq.{get_or_at, take_at}
use Rattle.laws.specs.Lists.{alter_at}
use Rattle.laws.specs.Bytes.{part, splice, enc_all, u32_at}
use Rattle.part_rows.specs.Table.{Table}
use Rattle.laws.proofs.Parts.{take_part}
use Rattle.laws.proofs.Rows.{enc_all_append, length_enc_all}
use Rattle.part_rows.proofs.Tables.{table_row, table_byte, table_u32, table_alter}

alter_here : {R : Type 0} (a : List R) (x : R) (b : List R) (g : R → R) → alter_at (length a) g (a ++ (x ∷ b)) ≡ a ++ (g x ∷ b)
alter_here [] x b g = refl
alter_here (y ∷ a) x b g = ap (λ l. y ∷ l) (alter_here a x b g)

module _ {R : Type 0} (enc : R → List ℕ) (w : ℕ) (wide : (x : R) → length (enc x) ≡ w) {s : List ℕ} {at i : ℕ} (a : List R) (x : R) (b : List R) (t : Table enc w s at (a ++ (x ∷ b))) (e : length a ≡ i) where
  here : get_or (a ++ (x ∷ b)) i x ≡ x
  here = get_or_at a x b x i e

  within : i < length (a ++ (x ∷ b))
  within = rw length-append (omega arith)

  pub row_here : part s (at + w * i) w ≡ enc x
  row_here = table_row enc w wide t i x within ∙ ap enc here

  pub byte_here : (k : ℕ) → k < w → get_or s (at + w * i + k) 0 ≡ get_or (enc x) k 0
  byte_here k h = table_byte enc w wide t i k x within h ∙ ap (λ (y : R). get_or (enc y) k 0) here

  pub u32_here : (k : ℕ) → k + 4 ≤ w → u32_at s (at + w * i + k) ≡ u32_at (enc x) k
  u32_here k h = table_u32 enc w wide t i k x within h ∙ ap (λ (y : R). u32_at (enc y) k) here

  pub set_here : (s' : List ℕ) (f : ℕ) (bs : List ℕ) (y : R) → s' ≡ splice s (at + w * i + f) bs → f + length bs ≤ w → splice (enc x) f bs ≡ enc y → Table enc w s' at (a ++ (y ∷ b))
  set_here s' f bs y q h r =
      let p : at + w * i + f ≡ at + (w * i + f) = omega arith in
      subst (λ (l : List R). Table enc w s' at l) (ap (λ (k : ℕ). alter_at k (λ z. y) (a ++ (x ∷ b))) (sym e) ∙ alter_here a x b (λ z. y))
      (table_alter enc w wide t s' i f bs (λ z. y) x (q ∙ ap (λ (k : ℕ). splice s k bs) p) within h (ap (λ (z : R). splice (enc z) f bs) here ∙ r))

-- the rows at the front
pub table_front : {R : Type 0} (enc : R → List ℕ) (w : ℕ) (wide : (x : R) → length (enc x) ≡ w) {s : List ℕ} {at : ℕ} (a b : List R) → Table enc w s at (a ++ b) → Table enc w s at a
table_front enc w wide {s} {at} a b t =
    let n = w * length a in
    let more : n ≤ w * length (a ++ b) = rw (length-append a b) (le_mul w (length a) (length b)) in
    record {
      holds =
          sym (take_part s at (w * length (a ++ b)) n more) ∙ ap (take n) (t.holds ∙ enc_all_append enc a b)
          ∙ take_at (enc_all enc a) (enc_all enc b) n (length_enc_all enc w wide a);
    }
  where
    le_mul : (w x y : ℕ) → w * x ≤ w * (x + y)
    le_mul w x y = rw (mul-add w x y) (omega arith)
