-- The lines of a text, one after the other, by position; and a byte above 127.
use Prim.Native.Nat.{ℕ, suc, ◌+◌, ◌-◌, ◌<◌, ◌≤◌, min, max}
use mathlib.Core.Path.{◌≡◌, refl, sym, ap, ◌∙◌}
use mathlib.Core.Bool.{Bool, cond, not, ◌||◌}
use mathlib.Core.List.{List, [], ◌∷◌}
use native.Mathlib.Numerals.{add-one}
use native.Mathlib.Omega.{arith}
use borrow.Author.Tests.{ltb-true, ltb-false, lt-ltb, le-ltb}
use lib.Dec.{eqb, ltb}
use lib.ListN.{length, get_or, take, drop, length-drop, drop_of_length-le}
use lib.Seq.{drop-cons, drop-drop}
use Rattle.laws.specs.Lists.{count_while}
use Rattle.laws.specs.Bytes.{part}
use Rattle.laws.specs.Spans.{end_in}
use Rattle.laws.proofs.Bools.{by_test, or_left, or_assoc, or_false}
use Rattle.laws.proofs.Spans.{count_while_yes, count_while_no}
use Rattle.laws.proofs.Parts.{count_while_part, end_in_le}
use Rattle.reader.specs.Text.{push, text_lines, has_high}
use Rattle.text_lines.specs.Lines.{not_byte, LineEnd}

-- how long the first line is
unfoldable pub row_length : List ℕ → ℕ
row_length [] = 0
row_length (c ∷ l) = cond (eqb c 10) 1 (suc (row_length l))

-- the first line, and the others
pub rows_next : (c : ℕ) (l : List ℕ) → text_lines (c ∷ l) ≡ take (row_length (c ∷ l)) (c ∷ l) ∷ text_lines (drop (row_length (c ∷ l)) (c ∷ l))
unfolding text_lines row_length
rows_next c [] = by_test (eqb c 10) (λ e. rw e) (λ e. rw e)
rows_next c (d ∷ l) = let r = rows_next d l in by_test (eqb c 10) (λ e. rw e) (λ e. rw e (ap (push c) r))

row_some : (c : ℕ) (l : List ℕ) → (0 < row_length (c ∷ l)) × (row_length (c ∷ l) ≤ length (c ∷ l))
unfolding row_length
row_some c [] = by_test (eqb c 10) (λ e. rw e (omega arith, omega arith)) (λ e. rw e (omega arith, omega arith))
row_some c (d ∷ l) =
    let r = row_some d l in
    by_test (eqb c 10) (λ e. rw e (omega arith, omega arith)) (λ e. rw e (omega arith, omega (arith, r.1)))

first : (l : List ℕ) → 0 < length l → (0 < row_length l) × (row_length l ≤ length l) × (text_lines l ≡ take (row_length l) l ∷ text_lines (drop (row_length l) l))
first [] h = absurd (omega arith)
first (c ∷ l) h = ((row_some c l).0, (row_some c l).1, rows_next c l)

-- the end of the line at a position
pub row_is : (t : List ℕ) (i e : ℕ) → i < length t → e ≡ i + row_length (drop i t) → LineEnd t i e
unfolding part
row_is t i e h x =
    let n = row_length (drop i t) in
    let f = first (drop i t) (omega (arith, length-drop i t)) in
    let k : n ≡ e - i = omega (arith, x) in
    record {
      past = omega (arith, x, f.0);
      inside = omega (arith, x, f.1, length-drop i t);
      rest = f.2 ∙ (λ j. take (k j) (drop i t) ∷ text_lines (drop-drop n i t j)) ∙ ap (λ (m : ℕ). take (e - i) (drop i t) ∷ text_lines (drop m t)) (sym x);
    }

-- no line past the end
pub rows_over : (t : List ℕ) (i : ℕ) → length t ≤ i → text_lines (drop i t) ≡ []
unfolding text_lines
rows_over t i h = rw (drop_of_length-le t h)

-- the greater of two is above 127 where one of them is
high_max : (a b : ℕ) → ltb 127 (max a b) ≡ (ltb 127 a || ltb 127 b)
high_max a b =
    by_test (ltb 127 a) (λ e. let k : 127 < a = ltb-true 127 a e in lt-ltb 127 (max a b) (omega arith) ∙ sym (or_left (ltb 127 a) (ltb 127 b) e))
    (λ e. let k : a ≤ 127 = ltb-false 127 a e in by_test (ltb 127 b) (λ f. let l : 127 < b = ltb-true 127 b f in rw (e, f) (lt-ltb 127 (max a b) (omega arith)))
    (λ f. let l : b ≤ 127 = ltb-false 127 b f in rw (e, f) (le-ltb 127 (max a b) (omega arith))))

-- the greatest byte so far
pub high_next : (t : List ℕ) (i m : ℕ) → i < length t → (ltb 127 m || has_high (drop i t)) ≡ has_high t → (ltb 127 (max m (get_or t i 0)) || has_high (drop (i + 1) t)) ≡ has_high t
unfolding has_high
high_next t i m h k =
    ap (λ (b : Bool). b || has_high (drop (i + 1) t)) (high_max m (get_or t i 0)) ∙ or_assoc (ltb 127 m) (ltb 127 (get_or t i 0)) (has_high (drop (i + 1) t))
    ∙ ap (λ (l : List ℕ). ltb 127 m || has_high l) (sym (drop-cons t i 0 h ∙ ap (λ (n : ℕ). get_or t i 0 ∷ drop n t) (sym (add-one i)))) ∙ k

pub high_over : (t : List ℕ) (i m : ℕ) → length t ≤ i → (ltb 127 m || has_high (drop i t)) ≡ has_high t → ltb 127 m ≡ has_high t
unfolding has_high
high_over t i m h k = sym (or_false (ltb 127 m)) ∙ ap (λ (l : List ℕ). ltb 127 m || has_high l) (sym (drop_of_length-le t h)) ∙ k

-- THE END OF A ROW, by its first line feed
row_count_while : (l : List ℕ) → row_length l ≡ min (length l) (suc (count_while (not_byte 10) l))
unfolding row_length
row_count_while [] = refl
row_count_while (c ∷ l) =
    by_test (eqb c 10) (λ e. rw (e, count_while_no (not_byte 10) c l (ap not e)) (omega arith))
    (λ e. rw (e, count_while_yes (not_byte 10) c l (ap not e)) (omega (arith, row_count_while l)))

module _ (t : List ℕ) (at i : ℕ) (e : i ≡ end_in (not_byte 10) t at (length t)) (h : at < length t) where
  first_feed : row_length (drop at t) ≡ min (length t - at) (suc (i - at))
  first_feed = omega (arith, e, row_count_while (drop at t), length-drop at t, count_while_part (not_byte 10) t at 0 (length t - at))

  -- it goes with the line; the last line may have none
  pub row_fed : i < length t → LineEnd t at (i + 1)
  row_fed k = row_is t at (i + 1) h (omega (arith, e, first_feed))

  pub row_last : length t ≤ i → LineEnd t at i
  row_last k = row_is t at i h (omega (arith, e, first_feed, end_in_le (not_byte 10) t at (length t) (omega arith)))
