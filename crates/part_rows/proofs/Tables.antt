-- LAWS OF TABLES, for rows of any width: none, one more, one changed, a byte or a number read back, and what a write elsewhere leaves.
use Prim.Native.Nat.{ℕ, zero, suc, ◌+◌, ◌-◌, ◌*◌, ◌≤◌, ◌<◌}
use mathlib.Core.Path.{◌≡◌, refl, sym, ap, ◌∙◌}
use mathlib.Core.List.{List, [], ◌∷◌, ◌++◌}
use native.Mathlib.Nat.{mul-suc, mul-zero, zero-add, not-suc-le-zero, le_of_suc-le-suc}
use native.Mathlib.Omega.{arith}
use lib.ListN.{length, take, drop, get_or, set, length-append}
use lib.Seq.{drop-append-add, drop-drop, take_at, take-take}
use Rattle.laws.specs.Bytes.{part, splice, enc_all, u32_at}
use Rattle.laws.specs.Lists.{alter_at}
use Rattle.laws.proofs.Lists.{alter_at_set, length_alter_at}
use Rattle.laws.proofs.Parts.{part_part, part_add, part_none, part_front, part_back, get_d_part}
use Rattle.laws.proofs.Numbers.{little_at_part}
use Rattle.laws.proofs.Rows.{row_in, enc_all_none, enc_all_snoc}
use Rattle.laws.proofs.Splices.{length_spliced, take_splice, drop_splice_past, part_same, part_below, part_above, part_around, splice_append_left, splice_append_right}
use Rattle.part_rows.specs.Table.{Table, Only}

drop_more : (a b : ℕ) (l : List ℕ) → a ≤ b → drop (b - a) (drop a l) ≡ drop b l
drop_more a b l h = let e : a + (b - a) ≡ b = omega arith in drop-drop (b - a) a l ∙ ap (λ (k : ℕ). drop k l) e

-- WHAT A WRITE ELSEWHERE LEAVES
module _ {R : Type 0} {enc : R → List ℕ} {w : ℕ} {s : List ℕ} {at : ℕ} {xs : List R} (t : Table enc w s at xs) where
  -- the same bytes there
  pub table_same : (s' : List ℕ) → part s' at (w * length xs) ≡ part s at (w * length xs) → Table enc w s' at xs
  table_same s' e = record { holds = e ∙ t.holds }

  -- a write behind it
  pub table_before : (s' : List ℕ) (k : ℕ) (bs : List ℕ) → s' ≡ splice s k bs → at + w * length xs ≤ k → Table enc w s' at xs
  table_before s' k bs e h = table_same s' (ap (λ (l : List ℕ). part l at (w * length xs)) e ∙ part_below s k bs at (w * length xs) h)

  -- a write before it
  pub table_behind : (s' : List ℕ) (k : ℕ) (bs : List ℕ) → s' ≡ splice s k bs → k + length bs ≤ at → Table enc w s' at xs
  table_behind s' k bs e h = table_same s' (ap (λ (l : List ℕ). part l at (w * length xs)) e ∙ part_above s k bs at (w * length xs) h)

-- no row
pub table_none : {R : Type 0} (enc : R → List ℕ) (w : ℕ) (s : List ℕ) (at : ℕ) → Table enc w s at []
table_none enc w s at = record { holds = ap (part s at) (mul-zero w) ∙ part_none s at ∙ sym (enc_all_none enc) }

module _ {R : Type 0} (enc : R → List ℕ) (w : ℕ) (wide : (x : R) → length (enc x) ≡ w) where
  -- the bytes of row i
  encoded_at : (xs : List R) (i : ℕ) (d : R) → i < length xs → part (enc_all enc xs) (w * i) w ≡ enc (get_or xs i d)
  unfolding enc_all part
  encoded_at [] i d h = absurd (not-suc-le-zero h)
  encoded_at (x ∷ xs) zero d h = rw (mul-zero w) (take_at (enc x) (enc_all enc xs) w (wide x))
  encoded_at (x ∷ xs) (suc i) d h =
      let e : w * suc i ≡ length (enc x) + w * i = mul-suc w i ∙ omega (arith, wide x) in
      rw (e, drop-append-add (enc x) (enc_all enc xs) (w * i)) (encoded_at xs i d (le_of_suc-le-suc h))

  -- row i, changed from its byte f on
  encoded_set : (xs : List R) (i f : ℕ) (bs : List ℕ) (y d : R) → i < length xs → f + length bs ≤ w → splice (enc (get_or xs i d)) f bs ≡ enc y
      → splice (enc_all enc xs) (w * i + f) bs ≡ enc_all enc (set xs i y)
  unfolding enc_all
  encoded_set [] i f bs y d h k e = absurd (not-suc-le-zero h)
  encoded_set (x ∷ xs) zero f bs y d h k e =
      rw (mul-zero w, zero-add f) (splice_append_left (enc x) (enc_all enc xs) f bs (omega (arith, wide x)) ∙ ap (λ (l : List ℕ). l ++ enc_all enc xs) e)
  encoded_set (x ∷ xs) (suc i) f bs y d h k e =
      let p : w * suc i + f ≡ length (enc x) + (w * i + f) = omega (arith, mul-suc w i, wide x) in
      rw (p, splice_append_right (enc x) (enc_all enc xs) (w * i + f) bs) (ap (λ (l : List ℕ). enc x ++ l) (encoded_set xs i f bs y d (le_of_suc-le-suc h) k e))

  module _ {s : List ℕ} {at : ℕ} {xs : List R} (t : Table enc w s at xs) where
    -- row i
    pub table_row : (i : ℕ) (d : R) → i < length xs → part s (at + w * i) w ≡ enc (get_or xs i d)
    table_row i d h =
        sym (part_part s at (w * length xs) (w * i) w (row_in w i (length xs) h)) ∙ ap (λ (l : List ℕ). part l (w * i) w) t.holds ∙ encoded_at xs i d h

    -- byte k of row i
    pub table_byte : (i k : ℕ) (d : R) → i < length xs → k < w → get_or s (at + w * i + k) 0 ≡ get_or (enc (get_or xs i d)) k 0
    table_byte i k d h l = sym (get_d_part s (at + w * i) w k l) ∙ ap (λ (r : List ℕ). get_or r k 0) (table_row i d h)

    -- the number that four bytes of row i spell
    pub table_u32 : (i k : ℕ) (d : R) → i < length xs → k + 4 ≤ w → u32_at s (at + w * i + k) ≡ u32_at (enc (get_or xs i d)) k
    table_u32 i k d h l = sym (little_at_part 4 s (at + w * i) w k l) ∙ ap (λ (r : List ℕ). u32_at r k) (table_row i d h)

    -- one row more
    pub table_push : (s' : List ℕ) (x : R) → s' ≡ splice s (at + w * length xs) (enc x) → at + w * length xs + w ≤ length s → Table enc w s' at (xs ++ (x ∷ []))
    table_push s' x e h =
        let k = at + w * length xs in
        let v = splice s k (enc x) in
        let n : w * length (xs ++ (x ∷ [])) ≡ w * length xs + w = ap (λ (m : ℕ). w * m) (length-append xs (x ∷ [])) ∙ omega (arith, mul-suc w (length xs)) in
        record {
          holds =
              ap (λ (l : List ℕ). part l at (w * length (xs ++ (x ∷ [])))) e ∙ ap (part v at) n ∙ part_add v at (w * length xs) w
              ∙ ap (λ (l : List ℕ). l ++ part v k w) (part_below s k (enc x) at (w * length xs) (omega arith) ∙ t.holds)
              ∙ ap (λ (m : ℕ). enc_all enc xs ++ part v k m) (sym (wide x))
              ∙ ap (λ (l : List ℕ). enc_all enc xs ++ l) (part_same s k (enc x) (omega (arith, wide x)))
              ∙ sym (enc_all_snoc enc xs x);
        }

    -- row i changed from its byte f on
    pub table_alter : (s' : List ℕ) (i f : ℕ) (bs : List ℕ) (g : R → R) (d : R) → s' ≡ splice s (at + (w * i + f)) bs → i < length xs → f + length bs ≤ w
        → splice (enc (get_or xs i d)) f bs ≡ enc (g (get_or xs i d)) → Table enc w s' at (alter_at i g xs)
    table_alter s' i f bs g d e h k q =
        record {
          holds =
              ap (λ (n : ℕ). part s' at (w * n)) (length_alter_at i g xs) ∙ ap (λ (l : List ℕ). part l at (w * length xs)) e
              ∙ part_around s at (w * length xs) (w * i + f) bs
              ∙ ap (λ (l : List ℕ). splice l (w * i + f) bs) t.holds
              ∙ encoded_set xs i f bs (g (get_or xs i d)) d h k q
              ∙ ap (enc_all enc) (sym (alter_at_set i g xs d));
        }

-- WRITES BETWEEN TWO PLACES
-- none
pub only_none : (lo hi : ℕ) (s : List ℕ) → Only lo hi s s
only_none lo hi s = record { same_length = refl; front = refl; back = refl }

-- one
pub only_splice : (lo hi : ℕ) (s s' : List ℕ) (at : ℕ) (bs : List ℕ) → s' ≡ splice s at bs → lo ≤ at → at + length bs ≤ hi → Only lo hi s s'
only_splice lo hi s s' at bs e l h =
    record {
      same_length = length_spliced s s' at bs e;
      front = ap (take lo) e ∙ take_splice lo s at bs l;
      back = ap (drop hi) e ∙ drop_splice_past hi s at bs h;
    }

-- one after the other
pub only_then : {lo hi : ℕ} {s t u : List ℕ} → Only lo hi s t → Only lo hi t u → Only lo hi s u
only_then p q = record { same_length = q.same_length ∙ p.same_length; front = q.front ∙ p.front; back = q.back ∙ p.back }

-- between places further apart
pub only_wider : {lo hi : ℕ} {s t : List ℕ} → Only lo hi s t → (lo' hi' : ℕ) → lo' ≤ lo → hi ≤ hi' → Only lo' hi' s t
only_wider {lo} {hi} {s} {t} p lo' hi' l h =
    record {
      same_length = p.same_length;
      front = sym (take-take lo' lo t l) ∙ ap (take lo') p.front ∙ take-take lo' lo s l;
      back = sym (drop_more hi hi' t h) ∙ ap (drop (hi' - hi)) p.back ∙ drop_more hi hi' s h;
    }

module _ {R : Type 0} {enc : R → List ℕ} {w : ℕ} {s s' : List ℕ} {at : ℕ} {xs : List R} {lo hi : ℕ} (t : Table enc w s at xs) (o : Only lo hi s s') where
  -- a table before them
  pub table_front : at + w * length xs ≤ lo → Table enc w s' at xs
  table_front h = table_same t s' (part_front s' s lo at (w * length xs) o.front h)

  -- a table behind them
  pub table_back : hi ≤ at → Table enc w s' at xs
  table_back h = table_same t s' (part_back s' s hi at (w * length xs) o.back h)
