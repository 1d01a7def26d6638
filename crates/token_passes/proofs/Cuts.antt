-- A run of bytes cut at its separators, by position: the first piece ends at the first separator, and what stands behind that is cut in the same way.
use Prim.Native.Nat.{ℕ, suc, ◌+◌, ◌≤◌, ◌<◌}
use mathlib.Core.Path.{◌≡◌, refl, sym, ap, ◌∙◌}
use mathlib.Core.Bool.{Bool, true, false, ◌||◌}
use mathlib.Core.List.{List, [], ◌∷◌}
use native.Mathlib.Omega.{arith}
use lib.ListN.{length, get_or, drop, drop_of_length-le}
use lib.Seq.{drop-drop}
use native.Mathlib.Decide.{dec_lt}
use Rattle.laws.specs.Lists.{count_while}
use Rattle.laws.specs.Spans.{run, end_of}
use Rattle.laws.proofs.Bools.{by_test, both_true}
use Rattle.laws.proofs.Spans.{count_while_yes, count_while_no, run_yes, run_no, run_within}
use Rattle.laws.proofs.Lists.{drop_next}
use Rattle.reader.specs.Text.{push}
use Rattle.reader.specs.Pieces.{pieces, separator}

-- a byte of the run, P, is one of a piece, D, or a separator, x
module _ (P D x : ℕ → Bool) (agree : (c : ℕ) → P c ≡ (D c || x c)) (apart : (c : ℕ) → x c ≡ true → D c ≡ false) (none : x 0 ≡ false) where
  -- the pieces behind the first one, which ends before s
  unfoldable others : List ℕ → List (List ℕ)
  others [] = []
  others (c ∷ s) = elim (x c) [ true ↦ pieces (separator x) 0 (run P s) | false ↦ [] ]

  -- and the bytes of the run there
  unfoldable more : List ℕ → ℕ
  more [] = 0
  more (c ∷ s) = elim (x c) [ true ↦ suc (count_while P s) | false ↦ 0 ]

  of_piece : (c : ℕ) → D c ≡ true → P c ≡ true
  of_piece c e = agree c ∙ rw e

  of_mark : (c : ℕ) → x c ≡ true → P c ≡ true
  of_mark c e = agree c ∙ rw (apart c e, e)

  of_none : (c : ℕ) → D c ≡ false → x c ≡ false → P c ≡ false
  of_none c d e = agree c ∙ rw (d, e)

  not_mark : (c : ℕ) → D c ≡ true → x c ≡ false
  not_mark c d = by_test (x c) (λ e. absurd (both_true (D c) d (apart c e))) (λ e. e)

  cut_mark : (c : ℕ) (u : List ℕ) → x c ≡ true → pieces (separator x) 0 (c ∷ u) ≡ [] ∷ pieces (separator x) 0 u
  unfolding pieces
  cut_mark c u e = rw (e, pieces)

  cut_piece : (c : ℕ) (u : List ℕ) → x c ≡ false → pieces (separator x) 0 (c ∷ u) ≡ push c (pieces (separator x) 0 u)
  unfolding pieces
  cut_piece c u e = rw (e, pieces)

  cut_run : (t : List ℕ) → pieces (separator x) 0 (run P t) ≡ run D t ∷ others (drop (count_while D t) t)
  unfolding others pieces
  cut_run [] = refl
  cut_run (c ∷ s) =
      by_test (D c)
      (λ d. rw (run_yes P c s (of_piece c d), cut_piece c (run P s) (not_mark c d), cut_run s, run_yes D c s d, count_while_yes D c s d))
      (λ d. by_test (x c)
      (λ e. rw (run_yes P c s (of_mark c e), cut_mark c (run P s) e, run_no D c s d, count_while_no D c s d) (rw (e, others)))
      (λ e. rw (run_no P c s (of_none c d e), run_no D c s d, count_while_no D c s d) (rw (e, others))))

  count_run : (t : List ℕ) → count_while P t ≡ count_while D t + more (drop (count_while D t) t)
  unfolding more
  count_run [] = refl
  count_run (c ∷ s) =
      by_test (D c)
      (λ d. rw (count_while_yes P c s (of_piece c d), count_while_yes D c s d) (omega (arith, count_run s)))
      (λ d. by_test (x c)
      (λ e. rw (count_while_yes P c s (of_mark c e), count_while_no D c s d) (rw (e, more) (omega arith)))
      (λ e. rw (count_while_no P c s (of_none c d e), count_while_no D c s d) (rw (e, more) (omega arith))))

  -- BY POSITION, where the first piece ends at e
  module _ (line : List ℕ) (i e : ℕ) (k : e ≡ end_of D line i) where
    there : drop (count_while D (drop i line)) (drop i line) ≡ drop e line
    there = drop-drop (count_while D (drop i line)) i line ∙ ap (λ n. drop n line) (sym k)

    -- a separator stands there
    module _ (m : x (get_or line e 0) ≡ true) where
      here : drop e line ≡ get_or line e 0 ∷ drop (e + 1) line
      here = drop_next line e 0 (run_within x none line e m)

      pub pieces_on : pieces (separator x) 0 (run P (drop i line)) ≡ run D (drop i line) ∷ pieces (separator x) 0 (run P (drop (e + 1) line))
      unfolding others
      pieces_on = cut_run (drop i line) ∙ ap (λ s. run D (drop i line) ∷ others s) (there ∙ here) ∙ ap (λ l. run D (drop i line) ∷ l) (rw (m, others))

      pub ends_on : end_of P line i ≡ end_of P line (e + 1)
      unfolding more
      ends_on =
          let q : more (drop (count_while D (drop i line)) (drop i line)) ≡ suc (count_while P (drop (e + 1) line)) = ap more (there ∙ here) ∙ rw (m, more) in
          omega (arith, count_run (drop i line), q, k)

    -- no separator stands there
    module _ (m : x (get_or line e 0) ≡ false) where
      no_others : others (drop e line) ≡ []
      unfolding others
      no_others = go (dec_lt e (length line))
        where
          go : Dec (e < length line) → others (drop e line) ≡ []
          go (yes h) = ap others (drop_next line e 0 h) ∙ rw (m, others)
          go (no h) = let out : length line ≤ e = omega arith in rw (drop_of_length-le line out)

      no_more : more (drop e line) ≡ 0
      unfolding more
      no_more = go (dec_lt e (length line))
        where
          go : Dec (e < length line) → more (drop e line) ≡ 0
          go (yes h) = ap more (drop_next line e 0 h) ∙ rw (m, more)
          go (no h) = let out : length line ≤ e = omega arith in rw (drop_of_length-le line out)

      pub pieces_last : pieces (separator x) 0 (run P (drop i line)) ≡ run D (drop i line) ∷ []
      pieces_last = cut_run (drop i line) ∙ ap (λ s. run D (drop i line) ∷ others s) there ∙ ap (λ l. run D (drop i line) ∷ l) no_others

      pub ends_here : end_of P line i ≡ e
      ends_here = omega (arith, count_run (drop i line), ap more there ∙ no_more, k)
