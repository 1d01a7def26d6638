-- Words between white space, by position.
use Prim.Native.Nat.{ℕ, zero, suc, ◌+◌, ◌≤◌, ◌<◌}
use mathlib.Core.Path.{◌≡◌, refl, sym, ap, ◌∙◌}
use mathlib.Core.Bool.{Bool, true, false, ◌||◌}
use mathlib.Core.List.{List, [], ◌∷◌}
use native.Mathlib.Omega.{arith}
use lib.ListN.{length, get_or, take, drop}
use lib.Dec.{eqb}
use Rattle.laws.specs.Lists.{foldl}
use Rattle.laws.specs.Bytes.{between}
use Rattle.laws.proofs.Bools.{or_no_left, or_no_right}
use Rattle.laws.proofs.Parts.{length_between, between_none, between_first, take_between, drop_between}
use Rattle.reader.specs.Text.{is_space, White, white, other, white_step, is_all_white, is_blank}
use Rattle.reader.specs.Pieces.{words, white_at}
use Rattle.reader.proofs.WordLaws.{stretch, words_separator, words_word}
use Rattle.text_white.proofs.Whites.{width_by, width_space, width_plain}
use Rattle.lyric_spans.specs.Spans.{may_be_white, WordStart, WordEnd}

-- a white character is within the text
pub white_le : (s : List ℕ) → 0 < length s → white_at s ≤ length s
unfolding white_at
white_le [] h = absurd (omega arith)
white_le (a ∷ []) h = alone (is_blank (a ∷ []))
  where
    alone : (x : Bool) → width_by x x x ≤ 1
    alone true = omega arith
    alone false = omega arith
white_le (a ∷ b ∷ []) h = pair (is_blank (a ∷ [])) (is_blank (a ∷ b ∷ []))
  where
    pair : (x y : Bool) → width_by x y y ≤ 2
    pair true y = omega arith
    pair false true = omega arith
    pair false false = omega arith
white_le (a ∷ b ∷ c ∷ s) h = three (is_blank (a ∷ [])) (is_blank (a ∷ b ∷ [])) (is_blank (a ∷ b ∷ c ∷ []))
  where
    three : (x y z : Bool) → width_by x y z ≤ suc (suc (suc (length s)))
    three true y z = omega arith
    three false true z = omega arith
    three false false true = omega arith
    three false false false = omega arith

-- behind a byte that no white character has, nothing is white
other_stays : (s : List ℕ) → foldl white_step other s ≡ other
unfolding white_step
other_stays [] = refl
other_stays (c ∷ s) = other_stays s

-- a byte with which no white character begins
no_white_first : (c : ℕ) → may_be_white c ≡ false → white_step white c ≡ other
unfolding white_step
no_white_first c e =
    let a = or_no_right (is_space c) (eqb c 0xc2 || (eqb c 0xe1 || (eqb c 0xe2 || eqb c 0xe3))) e in
    let b = or_no_right (eqb c 0xc2) (eqb c 0xe1 || (eqb c 0xe2 || eqb c 0xe3)) a in
    let d = or_no_right (eqb c 0xe1) (eqb c 0xe2 || eqb c 0xe3) b in
    rw (
      or_no_left (is_space c) (eqb c 0xc2 || (eqb c 0xe1 || (eqb c 0xe2 || eqb c 0xe3))) e,
      or_no_left (eqb c 0xc2) (eqb c 0xe1 || (eqb c 0xe2 || eqb c 0xe3)) a,
      or_no_left (eqb c 0xe1) (eqb c 0xe2 || eqb c 0xe3) b,
      or_no_left (eqb c 0xe2) (eqb c 0xe3) d,
      or_no_right (eqb c 0xe2) (eqb c 0xe3) d,
    )

not_blank : (c : ℕ) (s : List ℕ) → may_be_white c ≡ false → is_blank (c ∷ s) ≡ false
unfolding is_blank
not_blank c s e = ap (λ (q : White). is_all_white (foldl white_step q s)) (no_white_first c e) ∙ ap is_all_white (other_stays s)

pub no_white_at : (c : ℕ) (s : List ℕ) → may_be_white c ≡ false → white_at (c ∷ s) ≡ 0
unfolding white_at
no_white_at c s e = rw (not_blank c [] e, white_at) (rw (not_blank c (take 1 s) e, white_at) (rw (not_blank c (take 2 s) e)))

module _ (text : List ℕ) (i end : ℕ) (h : i < end) (l : end ≤ length text) where
  -- nor past the line's end
  pub white_in : i + white_at (between text i end) ≤ end
  white_in =
      let n = length_between text i end l in
      omega (arith, white_le (between text i end) (omega arith), n)

  here : between text i end ≡ get_or text i 0 ∷ between text (i + 1) end
  here = between_first text i end h l

  -- white space is passed over
  pub white_past : (w : ℕ) → w ≡ white_at (between text i end) → 0 < w → words white_at (between text i end) ≡ words white_at (between text (i + w) end)
  white_past zero e p = absurd (omega arith)
  white_past (suc n) e p =
      let k : i + 1 + n ≡ i + suc n = omega arith in
      ap (words white_at) here
      ∙ words_separator white_at (get_or text i 0) (between text (i + 1) end) n (ap white_at (sym here) ∙ sym e)
      ∙ ap (words white_at) (drop_between text (i + 1) end n ∙ ap (λ (j : ℕ). between text j end) k)

  -- ASCII by one byte: a space is passed over, another byte begins no white space
  pub space_here : is_space (get_or text i 0) ≡ true → 1 ≡ white_at (between text i end)
  space_here e = width_space (get_or text i 0) (between text (i + 1) end) e ∙ ap white_at (sym here)

  pub space_past : is_space (get_or text i 0) ≡ true → words white_at (between text i end) ≡ words white_at (between text (i + 1) end)
  space_past e = white_past 1 (space_here e) (omega arith)

  pub plain_here : get_or text i 0 ≤ 127 → is_space (get_or text i 0) ≡ false → white_at (between text i end) ≡ 0
  plain_here k e = sym (width_plain (get_or text i 0) (between text (i + 1) end) k e ∙ ap white_at (sym here))

  -- one with which no white character begins
  pub no_white_here : may_be_white (get_or text i 0) ≡ false → white_at (between text i end) ≡ 0
  no_white_here e = ap white_at here ∙ no_white_at (get_or text i 0) (between text (i + 1) end) e

  -- a byte that begins no white space belongs to the word
  pub stretch_on : white_at (between text i end) ≡ 0 → stretch white_at (between text i end) ≡ suc (stretch white_at (between text (i + 1) end))
  unfolding stretch
  stretch_on e =
      let f : white_at (get_or text i 0 ∷ between text (i + 1) end) ≡ 0 = ap white_at (sym here) ∙ e in
      ap (stretch white_at) here ∙ rw (f, stretch)

  -- one that does ends it
  pub stretch_off : 0 < white_at (between text i end) → stretch white_at (between text i end) ≡ 0
  unfolding stretch
  stretch_off p = go (white_at (get_or text i 0 ∷ between text (i + 1) end)) refl
    where
      go : (w : ℕ) → white_at (get_or text i 0 ∷ between text (i + 1) end) ≡ w → stretch white_at (between text i end) ≡ 0
      go zero e = let z : white_at (between text i end) ≡ 0 = ap white_at here ∙ e in absurd (omega (arith, z))
      go (suc n) e = ap (stretch white_at) here ∙ rw (e, stretch)

-- the line's end ends it
pub stretch_over : (text : List ℕ) (i end : ℕ) → end ≤ i → stretch white_at (between text i end) ≡ 0
unfolding stretch
stretch_over text i end h = ap (stretch white_at) (between_none text i end h)

-- THE BEGINNING OF A WORD
pub start_here : (text : List ℕ) (at end i : ℕ) → at ≤ i → i ≤ end → words white_at (between text at end) ≡ words white_at (between text i end)
    → (i < end → white_at (between text i end) ≡ 0) → WordStart text at end i
start_here text at end i a b c d = record { low = a; high = b; same = c; starts = d }

-- the same from an earlier position, if white space stands between
pub start_before : (text : List ℕ) (at end i r : ℕ) → at ≤ i → words white_at (between text at end) ≡ words white_at (between text i end) → WordStart text i end r → WordStart text at end r
start_before text at end i r a c w = record { low = omega (arith, w.low); high = w.high; same = c ∙ w.same; starts = w.starts }

-- ITS END
pub end_here : (text : List ℕ) (at end r : ℕ) → at < end → end ≤ length text → white_at (between text at end) ≡ 0
    → r + 0 ≡ at + stretch white_at (between text at end) → r ≤ end → (r < end → 0 < white_at (between text r end)) → WordEnd text at end r
end_here text at end r h l z e low stop =
    let m = stretch white_at (between text at end) in
    let first = between_first text at end h l in
    let k : r ≡ at + m = omega arith in
    let n = stretch_on text at end h l z in
    record {
      past = omega (arith, n);
      word =
          ap (words white_at) first
          ∙ words_word white_at (get_or text at 0) (between text (at + 1) end) (ap white_at (sym first) ∙ z)
          ∙ ap (λ (s : List ℕ). take (stretch white_at s) s ∷ words white_at (drop (stretch white_at s) s)) (sym first)
          ∙ (λ j. take_between text at end m (omega arith) j ∷ words white_at (drop_between text at end m j))
          ∙ ap (λ (x : ℕ). between text at x ∷ words white_at (between text x end)) (sym k);
      closed = record { high = low; ends = stop };
    }
