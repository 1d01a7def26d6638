-- Plain bytes: they belong to the word at which they stand, and none is a hyphen.
use Prim.Native.Nat.{ℕ, zero, suc, ◌+◌, ◌-◌, ◌≤◌, ◌<◌}
use mathlib.Core.Path.{◌≡◌, sym, ap, ◌∙◌}
use mathlib.Core.Bool.{true, false}
use mathlib.Core.List.{List}
use native.Mathlib.Nat.{add-zero}
use native.Mathlib.Decide.{dec_lt}
use native.Mathlib.Omega.{arith}
use lib.Dec.{eqb, leb}
use lib.ListN.{length, get_or}
use borrow.Author.Tests.{ne_eqb, leb-true, lt-leb}
use Rattle.laws.specs.Bytes.{between}
use Rattle.laws.specs.Spans.{end_in}
use Rattle.laws.proofs.Bools.{both_true, and_left, and_right, and_no_right, or_none}
use Rattle.laws.proofs.Parts.{get_d_between, end_in_ge, end_in_le, end_in_stops}
use Rattle.laws.proofs.Spans.{count_while_passes}
use Rattle.reader.specs.Text.{within, is_space}
use Rattle.reader.specs.Pieces.{white_at}
use Rattle.reader.proofs.WordLaws.{stretch}
use Rattle.lyric_spans.specs.Spans.{no_hyphen, is_plain, Closed, WordEnd}
use Rattle.lyric_spans.proofs.Whites.{plain_here, space_here, stretch_on, stretch_off, stretch_over, end_here}

-- A PLAIN BYTE
low : (c : ℕ) → is_plain c ≡ true → 33 ≤ c
low c e = leb-true 33 c (and_left (leb 33 c) (leb c 126) (and_right (no_hyphen c) (within 33 126 c) e))

high : (c : ℕ) → is_plain c ≡ true → c ≤ 126
high c e = leb-true c 126 (and_right (leb 33 c) (leb c 126) (and_right (no_hyphen c) (within 33 126 c) e))

no_space : (c : ℕ) → 33 ≤ c → is_space c ≡ false
no_space c h = or_none (within 9 13 c) (eqb c 32) (and_no_right (leb 9 c) (leb c 13) (lt-leb c 13 (omega arith))) (ne_eqb c 32 (λ e. omega (arith, e)))

module _ (text : List ℕ) (end : ℕ) (l : end ≤ length text) where
  -- begins no white space
  pub no_white : (i : ℕ) → i < end → is_plain (get_or text i 0) ≡ true → white_at (between text i end) ≡ 0
  no_white i h e = plain_here text i end h l (omega (arith, high (get_or text i 0) e)) (no_space (get_or text i 0) (low (get_or text i 0) e))

  -- n of them belong to the word
  stretch_plain : (n i : ℕ) → i + n ≤ end → ((k : ℕ) → i ≤ k → k < i + n → is_plain (get_or text k 0) ≡ true)
      → i + stretch white_at (between text i end) ≡ i + n + stretch white_at (between text (i + n) end)
  stretch_plain zero i h f = ap (λ (k : ℕ). k + stretch white_at (between text k end)) (sym (add-zero i))
  stretch_plain (suc n) i h f =
      let e : i + 1 + n ≡ i + suc n = omega arith in
      let one = stretch_on text i end (omega arith) l (no_white i (omega arith) (f i (omega arith) (omega arith))) in
      let rest = stretch_plain n (i + 1) (omega arith) (λ k a b. f k (omega arith) (omega arith)) in
      let first : i + stretch white_at (between text i end) ≡ i + 1 + stretch white_at (between text (i + 1) end) = omega (arith, one) in
      first ∙ rest ∙ ap (λ (k : ℕ). k + stretch white_at (between text k end)) e

  -- at a space, or at the line's end, a word is closed
  pub closed_here : (at : ℕ) → at ≤ end → (at < end → is_space (get_or text at 0) ≡ true) → Closed text at end
  closed_here at h s = record { high = h; ends = λ m. omega (arith, space_here text at end m l (s m)) }

  module _ (at r : ℕ) (h : at < end) (e : r ≡ end_in is_plain text at end) where
    pub plain_le : r ≤ end
    plain_le = omega (arith, e, end_in_le is_plain text at end (omega arith))

    -- each byte before their end is one
    plain_inside : (k : ℕ) → at ≤ k → k < r → is_plain (get_or text k 0) ≡ true
    plain_inside k a b =
        let i : at + (k - at) ≡ k = omega arith in
        ap (λ (j : ℕ). is_plain (get_or text j 0)) (sym i)
        ∙ ap is_plain (sym (get_d_between text at end (k - at) (omega (arith, plain_le))))
        ∙ count_while_passes is_plain (between text at end) (k - at) 0 (omega (arith, e))

    -- the word ends with them, where it is closed
    pub plain_word : at < r → Closed text r end → WordEnd text at end r
    plain_word m c =
        let n : at + (r - at) ≡ r = omega arith in
        let all : at + stretch white_at (between text at end) ≡ r + stretch white_at (between text r end) =
        stretch_plain (r - at) at (omega (arith, plain_le)) (λ k a b. plain_inside k a (omega arith)) ∙ ap (λ (k : ℕ). k + stretch white_at (between text k end)) n in
        end_here text at end r h l (no_white at h (plain_inside at (omega arith) m)) (ap (λ (k : ℕ). r + k) (sym (over (dec_lt r end))) ∙ sym all) plain_le c.ends
      where
        over : Dec (r < end) → stretch white_at (between text r end) ≡ 0
        over (yes k) = stretch_off text r end k l (c.ends k)
        over (no k) = stretch_over text r end (omega arith)

    -- and none is a hyphen
    pub plain_piece : at ≤ r → end_in no_hyphen text at r ≡ r
    plain_piece m = go (dec_lt (end_in no_hyphen text at r) r)
      where
        go : Dec (end_in no_hyphen text at r < r) → end_in no_hyphen text at r ≡ r
        go (yes k) =
            let p = end_in no_hyphen text at r in
            absurd
            (both_true (no_hyphen (get_or text p 0)) (and_left (no_hyphen (get_or text p 0)) (within 33 126 (get_or text p 0)) (plain_inside p (end_in_ge no_hyphen text at r) k))
            (end_in_stops no_hyphen text at r (omega (arith, plain_le)) k))
        go (no k) = omega (arith, end_in_le no_hyphen text at r m)

    pub plain_first : at < r → no_hyphen (get_or text at 0) ≡ true
    plain_first m = and_left (no_hyphen (get_or text at 0)) (within 33 126 (get_or text at 0)) (plain_inside at (omega arith) m)

    pub plain_last : at < r → no_hyphen (get_or text (r - 1) 0) ≡ true
    plain_last m = and_left (no_hyphen (get_or text (r - 1) 0)) (within 33 126 (get_or text (r - 1) 0)) (plain_inside (r - 1) (omega arith) (omega arith))
