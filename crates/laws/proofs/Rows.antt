-- Laws of rows in a store of bytes: pushed, read, changed, left alone by a write elsewhere, changed in place by a loop, and written as bytes. One law
-- each, for any width and any reading.
use Prim.Native.Nat.{ℕ, zero, suc, ◌+◌, ◌*◌, ◌-◌, ◌≤◌, ◌<◌}
use mathlib.Core.Path.{◌≡◌, refl, sym, ap, ◌∙◌}
use mathlib.Core.Logic.{⊎_elim}
use mathlib.Core.List.{List, [], ◌∷◌, ◌++◌, map, append_assoc, append-nil}
use native.Mathlib.Nat.{mul-zero, mul-suc, mul-add, mul-le-mul_left, add-zero, suc-add, not-suc-le-zero, le_of_suc-le-suc, eq-or-lt_of_le}
use native.Mathlib.Numerals.{add-one}
use native.Mathlib.Omega.{arith}
use lib.ListN.{length, take, drop, get_or, set, length-append}
use lib.Seq.{get_or_at, set-append_left, set_at, set-get_or, take_at, drop_at, drop-length}
use Rattle.laws.specs.Lists.{concat, All}
use Rattle.laws.specs.Bytes.{part, over, splice, rows, map_to, enc_all}
use Rattle.laws.proofs.Lists.{map_append, concat_append}
use Rattle.laws.proofs.Parts.{length_part, part_part, part_front, part_back, take_part, drop_part}
use Rattle.laws.proofs.Splices.{over_eq, part_same, part_below, part_above, part_around, part_within}

-- a row lies within its table
pub row_in : (w i n : ℕ) → i < n → w * i + w ≤ w * n
row_in w i n h = omega (arith, mul-suc w i, mul-le-mul_left w h)

-- A TABLE
module _ {R : Type 0} (dec : List ℕ → R) (w : ℕ) where
  -- it has n rows
  pub length_rows : (s : List ℕ) (base n : ℕ) → length (rows dec w s base n) ≡ n
  unfolding rows
  length_rows s base zero = refl
  length_rows s base (suc n) = rw (length-append, length_rows s base n) (omega arith)

  -- no row
  pub rows_none : (s : List ℕ) (base : ℕ) → rows dec w s base 0 ≡ []
  unfolding rows
  rows_none s base = refl

  -- one row more, as a loop's `n + 1` has it
  pub rows_more : (s : List ℕ) (base n : ℕ) → rows dec w s base (n + 1) ≡ rows dec w s base n ++ (dec (part s (base + w * n) w) ∷ [])
  unfolding rows
  rows_more s base n = rw add-one

  -- two tables, the second where the first ends
  pub rows_split : (s : List ℕ) (base i m : ℕ) → rows dec w s base (i + m) ≡ rows dec w s base i ++ rows dec w s (base + w * i) m
  unfolding rows
  rows_split s base i zero = rw (add-zero i) (sym (append-nil (rows dec w s base i)))
  rows_split s base i (suc m) =
      let e : i + suc m ≡ i + m + 1 = omega arith in
      let b : base + w * (i + m) ≡ base + w * i + w * m = omega (arith, mul-add w i m) in
      ap (rows dec w s base) e ∙ rows_more s base (i + m)
      ∙ ap (λ (l : List R). l ++ (dec (part s (base + w * (i + m)) w) ∷ [])) (rows_split s base i m)
      ∙ append_assoc (rows dec w s base i) (rows dec w s (base + w * i) m) (dec (part s (base + w * (i + m)) w) ∷ [])
      ∙ ap (λ (k : ℕ). rows dec w s base i ++ (rows dec w s (base + w * i) m ++ (dec (part s k w) ∷ []))) b

  -- the first i rows
  pub rows_take : (s : List ℕ) (base n i : ℕ) → i ≤ n → take i (rows dec w s base n) ≡ rows dec w s base i
  rows_take s base n i h =
      let e : n ≡ i + (n - i) = omega arith in
      ap (λ (k : ℕ). take i (rows dec w s base k)) e ∙ ap (take i) (rows_split s base i (n - i))
      ∙ take_at (rows dec w s base i) (rows dec w s (base + w * i) (n - i)) i (length_rows s base i)

  -- the rows after those
  pub rows_drop : (s : List ℕ) (base n i : ℕ) → i ≤ n → drop i (rows dec w s base n) ≡ rows dec w s (base + w * i) (n - i)
  rows_drop s base n i h =
      let e : n ≡ i + (n - i) = omega arith in
      ap (λ (k : ℕ). drop i (rows dec w s base k)) e ∙ ap (drop i) (rows_split s base i (n - i))
      ∙ drop_at (rows dec w s base i) (rows dec w s (base + w * i) (n - i)) i (length_rows s base i)

  -- the first row, and the others
  pub rows_first : (s : List ℕ) (base n : ℕ) → rows dec w s base (1 + n) ≡ dec (part s base w) ∷ rows dec w s (base + w) n
  rows_first s base n =
      let a : base + w * 0 ≡ base = omega (arith, mul-zero w) in
      let b : base + w * 1 ≡ base + w = omega (arith, mul-suc w 0, mul-zero w) in
      let one : rows dec w s base 1 ≡ dec (part s base w) ∷ [] = rows_more s base 0 ∙ ap (λ (l : List R). l ++ (dec (part s (base + w * 0) w) ∷ [])) (rows_none s base) ∙ ap (λ (k : ℕ). dec (part s k w) ∷ []) a in
      rows_split s base 1 n ∙ ap (λ (l : List R). l ++ rows dec w s (base + w * 1) n) one ∙ ap (λ (k : ℕ). dec (part s base w) ∷ rows dec w s k n) b

  -- a table is its own bytes: where they are the same in two stores, though at two places, the rows are
  pub rows_moved : (s t : List ℕ) (base base' n : ℕ) → ((i : ℕ) → i < n → part t (base' + w * i) w ≡ part s (base + w * i) w) → rows dec w t base' n ≡ rows dec w s base n
  unfolding rows
  rows_moved s t base base' zero h = refl
  rows_moved s t base base' (suc n) h = rw (rows_moved s t base base' n (λ i l. h i (omega arith)), h n (omega arith))

  -- a table in a part of the store
  pub rows_part : (s : List ℕ) (at m base n : ℕ) → base + w * n ≤ m → rows dec w (part s at m) base n ≡ rows dec w s (at + base) n
  rows_part s at m base n h =
      rows_moved s (part s at m) (at + base) base n
      (λ i l. let e : at + (base + w * i) ≡ at + base + w * i = omega arith in
      part_part s at m (base + w * i) w (omega (arith, row_in w i n l)) ∙ ap (λ (k : ℕ). part s k w) e)

  -- a table in what was written: in a part that was lent and came back, say
  pub rows_within : (s : List ℕ) (at : ℕ) (bs : List ℕ) (base n : ℕ) → at + length bs ≤ length s → base + w * n ≤ length bs
      → rows dec w (splice s at bs) (at + base) n ≡ rows dec w bs base n
  rows_within s at bs base n h l =
      rows_moved bs (splice s at bs) base (at + base) n
      (λ i k. let e : at + base + w * i ≡ at + (base + w * i) = omega arith in
      ap (λ (j : ℕ). part (splice s at bs) j w) e ∙ part_within s at bs (base + w * i) w h (omega (arith, row_in w i n k)))

  -- LEFT ALONE
  -- by a write past it
  pub rows_below : (s : List ℕ) (base n at : ℕ) (bs : List ℕ) → base + w * n ≤ at → rows dec w (splice s at bs) base n ≡ rows dec w s base n
  rows_below s base n at bs h = rows_moved s (splice s at bs) base base n (λ i l. part_below s at bs (base + w * i) w (omega (arith, row_in w i n l)))

  -- by a write before it
  pub rows_above : (s : List ℕ) (base n at : ℕ) (bs : List ℕ) → at + length bs ≤ base → rows dec w (splice s at bs) base n ≡ rows dec w s base n
  rows_above s base n at bs h = rows_moved s (splice s at bs) base base n (λ i l. part_above s at bs (base + w * i) w (omega arith))

  -- by a call that says only which front it left alone
  pub rows_front : (s t : List ℕ) (m base n : ℕ) → take m t ≡ take m s → base + w * n ≤ m → rows dec w t base n ≡ rows dec w s base n
  rows_front s t m base n e h = rows_moved s t base base n (λ i l. part_front t s m (base + w * i) w e (omega (arith, row_in w i n l)))

  -- by a call that says only which rest it left alone
  pub rows_back : (s t : List ℕ) (m base n : ℕ) → drop m t ≡ drop m s → m ≤ base → rows dec w t base n ≡ rows dec w s base n
  rows_back s t m base n e h = rows_moved s t base base n (λ i l. part_back t s m (base + w * i) w e (omega arith))

  -- PUSHED, READ, CHANGED
  -- a row written after the last
  pub rows_push : (s : List ℕ) (base n : ℕ) (bs : List ℕ) → length bs ≡ w → base + w * n + w ≤ length s
      → rows dec w (splice s (base + w * n) bs) base (n + 1) ≡ rows dec w s base n ++ (dec bs ∷ [])
  rows_push s base n bs e h =
      rows_more (splice s (base + w * n) bs) base n
      ∙ ap (λ (l : List R). l ++ (dec (part (splice s (base + w * n) bs) (base + w * n) w) ∷ [])) (rows_below s base n (base + w * n) bs (omega arith))
      ∙ ap (λ (k : ℕ). rows dec w s base n ++ (dec (part (splice s (base + w * n) bs) (base + w * n) k) ∷ [])) (sym e)
      ∙ ap (λ (l : List ℕ). rows dec w s base n ++ (dec l ∷ [])) (part_same s (base + w * n) bs (omega arith))

  -- row i, read
  pub rows_get : (s : List ℕ) (base n i : ℕ) (d : R) → i < n → get_or (rows dec w s base n) i d ≡ dec (part s (base + w * i) w)
  rows_get s base n i d h =
      let e : n ≡ i + 1 + (n - (i + 1)) = omega arith in
      let x = dec (part s (base + w * i) w) in
      let rest = rows dec w s (base + w * (i + 1)) (n - (i + 1)) in
      ap (λ (k : ℕ). get_or (rows dec w s base k) i d) e
      ∙ ap (λ (l : List R). get_or l i d) (rows_split s base (i + 1) (n - (i + 1)) ∙ ap (λ (l : List R). l ++ rest) (rows_more s base i) ∙ append_assoc (rows dec w s base i) (x ∷ []) rest)
      ∙ get_or_at (rows dec w s base i) x rest d i (length_rows s base i)

  -- row i, changed from its byte f on: all other rows are as they were
  pub rows_set : (s : List ℕ) (base n i f : ℕ) (bs : List ℕ) → i < n → f + length bs ≤ w
      → rows dec w (splice s (base + w * i + f) bs) base n ≡ set (rows dec w s base n) i (dec (splice (part s (base + w * i) w) f bs))
  unfolding rows
  rows_set s base zero i f bs h k = absurd (not-suc-le-zero h)
  rows_set s base (suc n) i f bs h k =
      ⊎_elim
      (λ (e : i ≡ n).
      let b : base + w * n + f ≡ base + w * i + f = ap (λ (j : ℕ). base + w * j + f) (sym e) in
      rw (rows_below s base n (base + w * i + f) bs (omega (arith, b)), ← e, part_around s (base + w * i) w f bs)
      (sym (set_at (rows dec w s base i) (dec (part s (base + w * i) w)) [] (dec (splice (part s (base + w * i) w) f bs)) i (length_rows s base i))))
      (λ (l : i < n).
      rw (rows_set s base n i f bs l k, part_above s (base + w * i + f) bs (base + w * n) w (omega (arith, row_in w i n l)))
      (sym (set-append_left (rows dec w s base n) (dec (part s (base + w * n) w) ∷ []) i (dec (splice (part s (base + w * i) w) f bs)) (rw length_rows (omega arith)))))
      (eq-or-lt_of_le (le_of_suc-le-suc h))

  -- row i, written anew
  pub rows_put : (s : List ℕ) (base n i : ℕ) (bs : List ℕ) → i < n → length bs ≡ w → base + w * n ≤ length s
      → rows dec w (splice s (base + w * i) bs) base n ≡ set (rows dec w s base n) i (dec bs)
  unfolding splice
  rows_put s base n i bs h e room =
      let r = part s (base + w * i) w in
      let lr : length r ≡ w = length_part s (base + w * i) w (omega (arith, row_in w i n h)) in
      let whole : over r bs ≡ bs = over_eq r bs (omega arith) ∙ ap (λ (k : ℕ). bs ++ drop k r) (e ∙ sym lr) ∙ ap (λ (l : List ℕ). bs ++ l) (drop-length r) ∙ append-nil bs in
      ap (λ (k : ℕ). rows dec w (splice s k bs) base n) (sym (add-zero (base + w * i)))
      ∙ rows_set s base n i 0 bs h (omega arith)
      ∙ ap (λ (l : List ℕ). set (rows dec w s base n) i (dec l)) whole

-- A LOOP THAT CHANGES ROWS IN PLACE
module _ {R : Type 0} (f : R → R) where
  -- none changed yet
  pub map_to_none : (xs : List R) → map_to f 0 xs ≡ xs
  unfolding map_to
  map_to_none xs = refl

  -- one more changed
  pub map_to_set : (xs : List R) (i : ℕ) (d : R) → i < length xs → set (map_to f i xs) i (f (get_or xs i d)) ≡ map_to f (i + 1) xs
  unfolding map_to
  map_to_set [] i d h = absurd (not-suc-le-zero h)
  map_to_set (x ∷ xs) zero d h = refl
  map_to_set (x ∷ xs) (suc i) d h = rw (suc-add i 1) (ap (λ (l : List R). f x ∷ l) (map_to_set xs i d (le_of_suc-le-suc h)))

  -- the next one is as it was
  pub map_to_get_or : (xs : List R) (i : ℕ) (d : R) → get_or (map_to f i xs) i d ≡ get_or xs i d
  unfolding map_to
  map_to_get_or xs zero d = refl
  map_to_get_or [] (suc i) d = refl
  map_to_get_or (x ∷ xs) (suc i) d = map_to_get_or xs i d

  -- what f leaves alone needs no store
  pub map_to_same : (xs : List R) (i : ℕ) (d : R) → i < length xs → f (get_or xs i d) ≡ get_or xs i d → map_to f (i + 1) xs ≡ map_to f i xs
  map_to_same xs i d h e =
      sym (map_to_set xs i d h) ∙ ap (set (map_to f i xs) i) (e ∙ sym (map_to_get_or xs i d)) ∙ set-get_or (map_to f i xs) i d

  -- all changed
  pub map_to_all : (xs : List R) (i : ℕ) → length xs ≤ i → map_to f i xs ≡ map f xs
  unfolding map_to
  map_to_all [] zero h = refl
  map_to_all [] (suc i) h = refl
  map_to_all (x ∷ xs) zero h = absurd (not-suc-le-zero h)
  map_to_all (x ∷ xs) (suc i) h = ap (λ (l : List R). f x ∷ l) (map_to_all xs i (le_of_suc-le-suc h))

-- RECORDS AS BYTES
module _ {R : Type 0} (enc : R → List ℕ) where
  -- no record
  pub enc_all_none : enc_all enc [] ≡ []
  unfolding enc_all
  enc_all_none = refl

  -- the first record, and the others
  pub enc_all_cons : (x : R) (xs : List R) → enc_all enc (x ∷ xs) ≡ enc x ++ enc_all enc xs
  unfolding enc_all
  enc_all_cons x xs = refl

  -- of two lists, one after the other
  pub enc_all_append : (xs ys : List R) → enc_all enc (xs ++ ys) ≡ enc_all enc xs ++ enc_all enc ys
  unfolding enc_all
  enc_all_append xs ys = ap concat (map_append enc xs ys) ∙ concat_append (map enc xs) (map enc ys)

  -- one record more, at the end
  pub enc_all_snoc : (xs : List R) (x : R) → enc_all enc (xs ++ (x ∷ [])) ≡ enc_all enc xs ++ enc x
  unfolding enc_all
  enc_all_snoc xs x = enc_all_append xs (x ∷ []) ∙ ap (λ (l : List ℕ). enc_all enc xs ++ l) (append-nil (enc x))

  module _ (w : ℕ) (width : (x : R) → length (enc x) ≡ w) where
    -- w bytes for each record
    pub length_enc_all : (xs : List R) → length (enc_all enc xs) ≡ w * length xs
    unfolding enc_all
    length_enc_all [] = sym (mul-zero w)
    length_enc_all (x ∷ xs) = rw (length-append (enc x) (enc_all enc xs), width x, length_enc_all xs, mul-suc w (length xs)) (omega arith)

    -- a store that holds the bytes of records from base on holds the records there
    pub rows_enc_all : (dec : List ℕ → R) (xs : List R) → All (λ x. dec (enc x) ≡ x) xs → (s : List ℕ) (base : ℕ) → part s base (w * length xs) ≡ enc_all enc xs
        → rows dec w s base (length xs) ≡ xs
    rows_enc_all dec [] back s base e = rows_none dec w s base
    rows_enc_all dec (x ∷ xs) back s base e =
        let n = length xs in
        let k : w * suc n ≡ w + w * n = omega (arith, mul-suc w n) in
        let q : part s base (w + w * n) ≡ enc x ++ enc_all enc xs = ap (part s base) (sym k) ∙ e ∙ enc_all_cons x xs in
        let one : suc n ≡ 1 + n = omega arith in
        let less : w + w * n - w ≡ w * n = omega arith in
        let here : part s base w ≡ enc x = sym (take_part s base (w + w * n) w (omega arith)) ∙ ap (take w) q ∙ take_at (enc x) (enc_all enc xs) w (width x) in
        let on : part s (base + w) (w * n) ≡ enc_all enc xs = ap (part s (base + w)) (sym less) ∙ sym (drop_part s base (w + w * n) w) ∙ ap (drop w) q ∙ drop_at (enc x) (enc_all enc xs) w (width x) in
        ap (rows dec w s base) one ∙ rows_first dec w s base n ∙ (λ i. (ap dec here ∙ back.0) i ∷ rows_enc_all dec xs back.1 s (base + w) on i)
