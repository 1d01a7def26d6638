-- NUMBERS IN A STORE, and numbers written behind them. Assumes nothing.
use Prim.Native.Nat.{ℕ, suc, ◌+◌, ◌-◌, ◌*◌, ◌≤◌, ◌<◌, ◌^◌}
use mathlib.Core.Path.{◌≡◌, sym, ap, ◌∙◌}
use mathlib.Core.List.{List, [], ◌∷◌, ◌++◌, append-nil}
use native.Mathlib.Omega.{arith}
use lib.ListN.{length, length-append}
use lib.Seq.{take_at, drop_at}
use Rattle.laws.specs.Bytes.{le32, u32_at, part, splice, rows, enc_all}
use Rattle.laws.specs.Lists.{All}
use Rattle.laws.proofs.Lists.{All-every, concat_length}
use Rattle.laws.proofs.Numbers.{length_little, little_at_own, little_at_below, little_at_little}
use Rattle.laws.proofs.Parts.{part_cut, part_drop}
use Rattle.laws.proofs.Rows.{rows_none, rows_more, rows_split, rows_first, rows_moved, rows_within, enc_all_none, enc_all_cons, enc_all_snoc}
use Rattle.laws.proofs.Splices.{splice_nil, spliced_next}
use Rattle.reading_records.specs.Widths.{count_width}
use Rattle.reading_list.specs.Numbers.{number_at, numbers_in, above}
use Rattle.reading_list.proofs.Above.{above_both, above_yes, above_no}

-- four bytes each
pub length_enc : (xs : List ℕ) → length (enc_all le32 xs) ≡ 4 * length xs
unfolding enc_all
length_enc xs = concat_length (λ x. Unit {0}) le32 4 (λ x u. length_little 4 x) xs (All-every _ (λ x. tt) xs)

-- none, and one more
pub numbers_none : (l : List ℕ) (from i : ℕ) → i ≡ from → numbers_in l from (i - from) ≡ []
unfolding numbers_in
numbers_none l from i e = let z : i - from ≡ 0 = omega (arith, e) in ap (rows (λ b. u32_at b 0) count_width l (number_at from)) z ∙ rows_none (λ b. u32_at b 0) count_width l (number_at from)

pub numbers_more : (l : List ℕ) (from i : ℕ) → from ≤ i → numbers_in l from (i + 1 - from) ≡ numbers_in l from (i - from) ++ (u32_at l (number_at i) ∷ [])
unfolding numbers_in
numbers_more l from i h =
    let z : i + 1 - from ≡ i - from + 1 = omega (arith, h) in
    let p : number_at from + count_width * (i - from) ≡ number_at i = omega (arith, h) in
    ap (rows (λ b. u32_at b 0) count_width l (number_at from)) z
    ∙ rows_more (λ b. u32_at b 0) count_width l (number_at from) (i - from)
    ∙ ap (λ (k : ℕ). rows (λ b. u32_at b 0) count_width l (number_at from) (i - from) ++ (u32_at (part l k 4) 0 ∷ [])) p
    ∙ ap (λ (x : ℕ). rows (λ b. u32_at b 0) count_width l (number_at from) (i - from) ++ (x ∷ [])) (sym (little_at_own 4 l (number_at i)))

-- those above `least`, with number i
pub above_kept : (l : List ℕ) (least from i : ℕ) → from ≤ i → least < u32_at l (number_at i)
    → above least (numbers_in l from (i + 1 - from)) ≡ above least (numbers_in l from (i - from)) ++ (u32_at l (number_at i) ∷ [])
above_kept l least from i h k =
    ap (above least) (numbers_more l from i h)
    ∙ above_both least (numbers_in l from (i - from)) (u32_at l (number_at i) ∷ [])
    ∙ ap (λ (z : List ℕ). above least (numbers_in l from (i - from)) ++ z) (above_yes least (u32_at l (number_at i)) k)

pub above_left : (l : List ℕ) (least from i : ℕ) → from ≤ i → u32_at l (number_at i) ≤ least
    → above least (numbers_in l from (i + 1 - from)) ≡ above least (numbers_in l from (i - from))
above_left l least from i h k =
    ap (above least) (numbers_more l from i h)
    ∙ above_both least (numbers_in l from (i - from)) (u32_at l (number_at i) ∷ [])
    ∙ ap (λ (z : List ℕ). above least (numbers_in l from (i - from)) ++ z) (above_no least (u32_at l (number_at i)) k)
    ∙ append-nil (above least (numbers_in l from (i - from)))

-- as many at least as far as i as in all
pub above_grows : (l : List ℕ) (least from i to : ℕ) → from ≤ i → i ≤ to → length (above least (numbers_in l from (i - from))) ≤ length (above least (numbers_in l from (to - from)))
unfolding numbers_in
above_grows l least from i to h k =
    let z : to - from ≡ i - from + (to - i) = omega (arith, h, k) in
    let front = rows (λ b. u32_at b 0) count_width l (number_at from) (i - from) in
    let back = rows (λ b. u32_at b 0) count_width l (number_at from + count_width * (i - from)) (to - i) in
    let e : above least (rows (λ b. u32_at b 0) count_width l (number_at from) (to - from)) ≡ above least front ++ above least back =
    ap (λ (n : ℕ). above least (rows (λ b. u32_at b 0) count_width l (number_at from) n)) z
    ∙ ap (above least) (rows_split (λ b. u32_at b 0) count_width l (number_at from) (i - from) (to - i))
    ∙ above_both least front back in
    omega (arith, ap length e, length-append (above least front) (above least back))

-- WRITTEN BEHIND c NUMBERS: none yet, and one more
pub written_none : (l : List ℕ) (c : ℕ) (xs : List ℕ) → xs ≡ [] → l ≡ splice l (number_at c) (enc_all le32 xs)
written_none l c xs e = sym (ap (λ (z : List ℕ). splice l (number_at c) (enc_all le32 z)) e ∙ ap (splice l (number_at c)) (enc_all_none le32) ∙ splice_nil l (number_at c))

pub written_more : (l m k : List ℕ) (c count : ℕ) (xs : List ℕ) (x : ℕ) → m ≡ splice l (number_at c) (enc_all le32 xs) → count ≡ c + length xs → k ≡ splice m (number_at count) (le32 x)
    → k ≡ splice l (number_at c) (enc_all le32 (xs ++ (x ∷ [])))
written_more l m k c count xs x e n f =
    spliced_next l m k (number_at c) (number_at count) (enc_all le32 xs) (le32 x) e f (omega (arith, n, length_enc xs))
    ∙ ap (splice l (number_at c)) (sym (enc_all_snoc le32 xs x))

-- what stands before them stays
pub number_stays : (l : List ℕ) (c i : ℕ) (bs : List ℕ) → i < c → u32_at (splice l (number_at c) bs) (number_at i) ≡ u32_at l (number_at i)
number_stays l c i bs h = little_at_below 4 l (number_at c) bs (number_at i) (omega (arith, h))

-- READ BACK: the numbers that were written
after_one : (x : ℕ) (r : List ℕ) (n : ℕ) → rows (λ b. u32_at b 0) 4 (le32 x ++ r) (0 + 4) n ≡ rows (λ b. u32_at b 0) 4 r 0 n
after_one x r n =
    rows_moved (λ b. u32_at b 0) 4 r (le32 x ++ r) 0 (0 + 4) n
    (λ i h.
    let e : 0 + 4 + 4 * i ≡ 4 + (0 + 4 * i) = omega arith in
    ap (λ (k : ℕ). part (le32 x ++ r) k 4) e
    ∙ sym (part_drop (le32 x ++ r) 4 (0 + 4 * i) 4)
    ∙ ap (λ (l : List ℕ). part l (0 + 4 * i) 4) (drop_at (le32 x) r 4 (length_little 4 x)))

decoded : (xs : List ℕ) → All (λ x. x < 2 ^ 32) xs → rows (λ b. u32_at b 0) 4 (enc_all le32 xs) 0 (length xs) ≡ xs
decoded [] h = rows_none (λ b. u32_at b 0) 4 (enc_all le32 []) 0
decoded (x ∷ xs) h =
    let z : suc (length xs) ≡ 1 + length xs = omega arith in
    ap (λ (l : List ℕ). rows (λ b. u32_at b 0) 4 l 0 (suc (length xs))) (enc_all_cons le32 x xs)
    ∙ ap (rows (λ b. u32_at b 0) 4 (le32 x ++ enc_all le32 xs) 0) z
    ∙ rows_first (λ b. u32_at b 0) 4 (le32 x ++ enc_all le32 xs) 0 (length xs)
    ∙ (λ i. first i ∷ after_one x (enc_all le32 xs) (length xs) i)
    ∙ ap (λ (l : List ℕ). x ∷ l) (decoded xs h.1)
  where
    first : u32_at (part (le32 x ++ enc_all le32 xs) 0 4) 0 ≡ x
    first =
        ap (λ (l : List ℕ). u32_at l 0) (sym (part_cut (le32 x ++ enc_all le32 xs) 0 4) ∙ take_at (le32 x) (enc_all le32 xs) 4 (length_little 4 x))
        ∙ little_at_little 4 x h.0

pub numbers_back : (l xs : List ℕ) (c : ℕ) → length xs ≡ c → number_at c ≤ length l → All (λ x. x < 2 ^ 32) xs → numbers_in (splice l (number_at 0) (enc_all le32 xs)) 0 c ≡ xs
unfolding numbers_in
numbers_back l xs c e h a =
    let z : number_at 0 ≡ number_at 0 + 0 = omega arith in
    ap (λ (k : ℕ). rows (λ b. u32_at b 0) count_width (splice l (number_at 0) (enc_all le32 xs)) k c) z
    ∙ rows_within (λ b. u32_at b 0) count_width l (number_at 0) (enc_all le32 xs) 0 c (omega (arith, length_enc xs, e, h)) (omega (arith, length_enc xs, e))
    ∙ ap (rows (λ b. u32_at b 0) count_width (enc_all le32 xs) 0) (sym e)
    ∙ decoded xs a
