-- Laws of a part of a text: what stands in it, parts of it, and its first and last byte. The code has a line and two positions where the
-- definitions have a text, so the laws of `between` turn a definition by recursion on the text into the turns of a loop over the line.
use Prim.Native.Nat.{ℕ, zero, suc, ◌+◌, ◌-◌, ◌≤◌, ◌<◌, min}
use mathlib.Core.Path.{◌≡◌, refl, sym, ap, ◌∙◌}
use mathlib.Core.Bool.{Bool, true, false}
use mathlib.Core.List.{List, [], ◌∷◌, ◌++◌}
use native.Mathlib.Nat.{zero-add, suc-add}
use native.Mathlib.Decide.{dec_le}
use native.Mathlib.Numerals.{add-one}
use native.Mathlib.Omega.{arith}
use lib.ListN.{length, take, drop, get_or, length-take, length-drop, drop_of_length-le, get_or-eq_default}
use lib.Seq.{take-suc, take-add, take-nil, take_all, take-take, drop-drop, get_or-take, get_or-drop}
use Rattle.laws.specs.Lists.{count_while}
use Rattle.laws.specs.Spans.{run, end_of, end_in}
use Rattle.laws.specs.Bytes.{part, between}
use Rattle.laws.proofs.Lists.{drop_next}
use Rattle.laws.proofs.Spans.{count_while_yes, count_while_no, count_while_take, count_while_stops}

-- what is taken of what is left is what is left of what is taken
pub take_drop {ℓ} : {A : Type ℓ} (a n : ℕ) (l : List A) → take n (drop a l) ≡ drop a (take (a + n) l)
take_drop zero n l = ap (λ (k : ℕ). take k l) (sym (zero-add n))
take_drop (suc a) n [] = take-nil n ∙ sym (ap (drop (suc a)) (take-nil (suc a + n)))
take_drop (suc a) n (x ∷ l) = rw (suc-add a n) (take_drop a n l)

-- A PART, n LONG
-- a part as a cut, as a lent `&s[at..]` comes
pub part_cut : (s : List ℕ) (at n : ℕ) → take n (drop at s) ≡ part s at n
unfolding part
part_cut s at n = refl

-- its length
pub length_part : (s : List ℕ) (at n : ℕ) → at + n ≤ length s → length (part s at n) ≡ n
unfolding part
length_part s at n h = simp (length-take, length-drop) (omega arith)

-- its length, where it reaches past the end
pub length_part_min : (s : List ℕ) (at n : ℕ) → length (part s at n) ≡ min n (length s - at)
unfolding part
length_part_min s at n = rw (length-take n (drop at s), length-drop at s)

-- a byte of it
pub get_d_part : (s : List ℕ) (at n k : ℕ) → k < n → get_or (part s at n) k 0 ≡ get_or s (at + k) 0
unfolding part
get_d_part s at n k h = get_or-take n (drop at s) k 0 h ∙ get_or-drop at s k 0

-- 0 past its end
pub get_or_part_past : (s : List ℕ) (at n k : ℕ) → n ≤ k → get_or (part s at n) k 0 ≡ 0
get_or_part_past s at n k h = get_or-eq_default (part s at n) 0 (rw (length_part_min s at n) (omega arith))

-- no bytes
pub part_none : (s : List ℕ) (at : ℕ) → part s at 0 ≡ []
unfolding part
part_none s at = refl

-- past the end there are none
pub part_past : (s : List ℕ) (at n : ℕ) → length s ≤ at → part s at n ≡ []
unfolding part
part_past s at n h = ap (take n) (drop_of_length-le s h) ∙ take-nil n

-- the whole list
pub part_all : (s : List ℕ) (n : ℕ) → length s ≤ n → part s 0 n ≡ s
unfolding part
part_all s n h = take_all n s h

-- the rest of the list
pub part_rest : (s : List ℕ) (at n : ℕ) → length s ≤ at + n → part s at n ≡ drop at s
unfolding part
part_rest s at n h = take_all n (drop at s) (rw length-drop (omega arith))

-- its first byte, and the others
pub part_cons : (s : List ℕ) (at n : ℕ) → at < length s → part s at (n + 1) ≡ get_or s at 0 ∷ part s (at + 1) n
unfolding part
part_cons s at n h = rw (add-one n, drop_next s at 0 h)

-- its last byte, and the others
pub part_suc : (s : List ℕ) (at n : ℕ) → at + n < length s → part s at (n + 1) ≡ part s at n ++ (get_or s (at + n) 0 ∷ [])
unfolding part
part_suc s at n h =
    rw (add-one n) (take-suc (drop at s) n 0 (rw length-drop (omega arith)) ∙ ap (λ (x : ℕ). take n (drop at s) ++ (x ∷ [])) (get_or-drop at s n 0))

-- two parts, the second where the first ends
pub part_add : (s : List ℕ) (at n m : ℕ) → part s at (n + m) ≡ part s at n ++ part s (at + n) m
unfolding part
part_add s at n m = take-add n m (drop at s) ∙ ap (λ (l : List ℕ). take n (drop at s) ++ take m l) (drop-drop n at s)

-- a part of a part
pub part_part : (s : List ℕ) (at n b m : ℕ) → b + m ≤ n → part (part s at n) b m ≡ part s (at + b) m
unfolding part
part_part s at n b m h = take_drop b m (take n (drop at s)) ∙ ap (drop b) (take-take (b + m) n (drop at s) h) ∙ sym (take_drop b m (drop at s)) ∙ ap (take m) (drop-drop b at s)

-- a part of the front
pub part_take : (s : List ℕ) (m at n : ℕ) → at + n ≤ m → part (take m s) at n ≡ part s at n
unfolding part
part_take s m at n h = take_drop at n (take m s) ∙ ap (drop at) (take-take (at + n) m s h) ∙ sym (take_drop at n s)

-- a part of the rest
pub part_drop : (s : List ℕ) (b at n : ℕ) → part (drop b s) at n ≡ part s (b + at) n
unfolding part
part_drop s b at n = ap (take n) (drop-drop at b s)

-- the front of a part
pub take_part : (s : List ℕ) (at n k : ℕ) → k ≤ n → take k (part s at n) ≡ part s at k
unfolding part
take_part s at n k h = take-take k n (drop at s) h

-- the rest of a part
pub drop_part : (s : List ℕ) (at n k : ℕ) → drop k (part s at n) ≡ part s (at + k) (n - k)
unfolding part
drop_part s at n k = go (dec_le k n)
  where
    go : Dec (k ≤ n) → drop k (part s at n) ≡ part s (at + k) (n - k)
    go (yes h) =
        let e : k + (n - k) ≡ n = omega arith in
        ap (λ (m : ℕ). drop k (take m (drop at s))) (sym e) ∙ sym (take_drop k (n - k) (drop at s)) ∙ ap (take (n - k)) (drop-drop k at s)
    go (no h) =
        let e : n - k ≡ 0 = omega arith in
        drop_of_length-le (part s at n) {i = k} (rw (length_part_min s at n) (omega arith)) ∙ sym (ap (part s (at + k)) e ∙ part_none s (at + k))

-- a part within a front that is the same in both lists
pub part_front : (s t : List ℕ) (m b n : ℕ) → take m s ≡ take m t → b + n ≤ m → part s b n ≡ part t b n
part_front s t m b n e h = sym (part_take s m b n h) ∙ ap (λ (l : List ℕ). part l b n) e ∙ part_take t m b n h

-- a part within a rest that is the same in both lists
pub part_back : (s t : List ℕ) (m b n : ℕ) → drop m s ≡ drop m t → m ≤ b → part s b n ≡ part t b n
part_back s t m b n e h =
    let k : m + (b - m) ≡ b = omega arith in
    rw k at (sym (part_drop s m (b - m) n) ∙ ap (λ (l : List ℕ). part l (b - m) n) e ∙ part_drop t m (b - m) n)

-- FROM ONE POSITION UP TO ANOTHER
module _ (s : List ℕ) (i b : ℕ) where
  -- its length
  pub length_between : b ≤ length s → length (between s i b) ≡ b - i
  length_between h = rw (length_part_min s i (b - i)) (omega arith)

  -- a byte of it
  pub get_d_between : (k : ℕ) → i + k < b → get_or (between s i b) k 0 ≡ get_or s (i + k) 0
  get_d_between k h = get_d_part s i (b - i) k (omega arith)

  -- nothing where the positions meet
  pub between_none : b ≤ i → between s i b ≡ []
  between_none h =
      let e : b - i ≡ 0 = omega arith in
      rw e (part_none s i)

  -- its first byte, and what stands from the next position on
  pub between_first : i < b → b ≤ length s → between s i b ≡ get_or s i 0 ∷ between s (i + 1) b
  between_first h l =
      let e : b - i ≡ b - (i + 1) + 1 = omega arith in
      rw e (part_cons s i (b - (i + 1)) (omega arith))

  -- its last byte, and what stands before that
  pub between_last : i < b → b ≤ length s → between s i b ≡ between s i (b - 1) ++ (get_or s (b - 1) 0 ∷ [])
  between_last h l =
      let e : b - i ≡ b - 1 - i + 1 = omega arith in
      let k : i + (b - 1 - i) ≡ b - 1 = omega arith in
      ap (part s i) e ∙ part_suc s i (b - 1 - i) (omega arith) ∙ ap (λ (j : ℕ). part s i (b - 1 - i) ++ (get_or s j 0 ∷ [])) k

  -- cut at a position
  pub between_cut : (k : ℕ) → i ≤ k → k ≤ b → between s i b ≡ between s i k ++ between s k b
  between_cut k h l =
      let e : b - i ≡ k - i + (b - k) = omega arith in
      let j : i + (k - i) ≡ k = omega arith in
      ap (part s i) e ∙ part_add s i (k - i) (b - k) ∙ ap (λ (n : ℕ). part s i (k - i) ++ part s n (b - k)) j

  -- what stands before a position in it
  pub take_between : (k : ℕ) → i + k ≤ b → take k (between s i b) ≡ between s i (i + k)
  take_between k h =
      let e : i + k - i ≡ k = omega arith in
      rw e (take_part s i (b - i) k (omega arith))

  -- what stands from a position in it on
  pub drop_between : (k : ℕ) → drop k (between s i b) ≡ between s (i + k) b
  drop_between k =
      let e : b - (i + k) ≡ b - i - k = omega arith in
      rw e (drop_part s i (b - i) k)

-- THE BYTES OF ONE KIND AT ITS FRONT
module _ (p : ℕ → Bool) (s : List ℕ) (i b : ℕ) where
  -- they are those of the line, as far as the text goes
  pub count_while_part : (n : ℕ) → count_while p (part s i n) ≡ min n (count_while p (drop i s))
  unfolding part
  count_while_part n = count_while_take p n (drop i s)

  -- so is their end
  pub end_in_end_of : i ≤ b → end_in p s i b ≡ min b (end_of p s i)
  end_in_end_of h = omega (arith, count_while_part (b - i))

  -- one byte further on, where the byte here is of the kind
  pub end_in_more : i < b → b ≤ length s → p (get_or s i 0) ≡ true → end_in p s i b ≡ end_in p s (i + 1) b
  end_in_more h l e =
      let q : count_while p (between s i b) ≡ suc (count_while p (between s (i + 1) b)) = rw (between_first s i b h l) (count_while_yes p (get_or s i 0) (between s (i + 1) b) e) in
      omega arith

  -- here, where it is not
  pub end_in_stop : i < b → b ≤ length s → p (get_or s i 0) ≡ false → end_in p s i b ≡ i
  end_in_stop h l e =
      let q : count_while p (between s i b) ≡ 0 = rw (between_first s i b h l) (count_while_no p (get_or s i 0) (between s (i + 1) b) e) in
      omega arith

  -- here, where the text is over
  pub end_in_over : b ≤ i → end_in p s i b ≡ i
  end_in_over h =
      let q : count_while p (between s i b) ≡ 0 = rw (between_none s i b h) in
      omega arith

  -- not before the position
  pub end_in_ge : i ≤ end_in p s i b
  end_in_ge = omega arith

  -- nor past the text
  pub end_in_le : i ≤ b → end_in p s i b ≤ b
  end_in_le h = omega (arith, count_while_part (b - i))

  -- the byte there is not of the kind
  pub end_in_stops : b ≤ length s → end_in p s i b < b → p (get_or s (end_in p s i b) 0) ≡ false
  end_in_stops l h =
      let k = count_while p (between s i b) in
      rw (← get_d_between s i b k h) (count_while_stops p (between s i b) 0 (rw (length_between s i b l) (omega arith)))

  -- the text before their end: the first piece, where the kind is `no separator`; a word, where it is `no space`
  pub run_between : i ≤ b → run p (between s i b) ≡ between s i (end_in p s i b)
  run_between h = take_between s i b (count_while p (between s i b)) (end_in_le h)

  -- the text from their end on: without white space at its front, where the kind is `space`; with the separator, behind a first piece
  pub behind_between : drop (count_while p (between s i b)) (between s i b) ≡ between s (end_in p s i b) b
  behind_between = drop_between s i b (count_while p (between s i b))

  -- the text behind the byte at their end: what stands after the separator
  pub after_between : drop (count_while p (between s i b) + 1) (between s i b) ≡ between s (end_in p s i b + 1) b
  after_between =
      let e : i + (count_while p (between s i b) + 1) ≡ i + count_while p (between s i b) + 1 = omega arith in
      drop_between s i b (count_while p (between s i b) + 1) ∙ ap (λ (k : ℕ). between s k b) e
