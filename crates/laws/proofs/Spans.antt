-- Laws of the elements of one kind at the front of a list: how many there are, which, and where they end; by position too, as a loop goes.
use Prim.Native.Nat.{ℕ, zero, suc, ◌+◌, ◌-◌, ◌≤◌, ◌<◌, min, max, zero-le, suc-le-suc}
use mathlib.Core.Path.{◌≡◌, refl, sym, ap, ◌∙◌}
use mathlib.Core.Bool.{Bool, true, false, false≢true}
use mathlib.Core.List.{List, [], ◌∷◌, ◌++◌}
use native.Mathlib.Nat.{not-suc-le-zero, le_of_suc-le-suc}
use native.Mathlib.Decide.{dec_lt}
use native.Mathlib.Omega.{arith}
use lib.ListN.{length, get_or, take, drop, length-take, length-drop, drop_of_length-le, get_or-eq_default}
use lib.Seq.{get_or-drop}
use Rattle.laws.specs.Lists.{all, count_while}
use Rattle.laws.specs.Spans.{run, end_of}
use Rattle.laws.proofs.Bools.{by_test, and_both, and_left, and_right}
use Rattle.laws.proofs.Lists.{drop_next}

module _ {ℓ} {A : Type ℓ} (p : A → Bool) where
  -- one more where the first passes
  pub count_while_yes : (c : A) (s : List A) → p c ≡ true → count_while p (c ∷ s) ≡ suc (count_while p s)
  count_while_yes c s h = rw (h, count_while)

  -- none where the first fails
  pub count_while_no : (c : A) (s : List A) → p c ≡ false → count_while p (c ∷ s) ≡ 0
  count_while_no c s h = rw (h, count_while)

  -- it is within the list
  pub count_while_le : (s : List A) → count_while p s ≤ length s
  count_while_le [] = zero-le
  count_while_le (c ∷ s) = by_test (p c) (λ e. rw (count_while_yes c s e) (suc-le-suc (count_while_le s))) (λ e. rw (count_while_no c s e) zero-le)

  -- what it counts passes
  pub count_while_passes : (s : List A) (i : ℕ) (d : A) → i < count_while p s → p (get_or s i d) ≡ true
  count_while_passes [] i d h = absurd (not-suc-le-zero h)
  count_while_passes (c ∷ s) zero d h = by_test (p c) (λ e. e) (λ e. absurd (not-suc-le-zero (rw (count_while_no c s e) at h)))
  count_while_passes (c ∷ s) (suc i) d h =
      by_test (p c) (λ e. count_while_passes s i d (le_of_suc-le-suc (rw (count_while_yes c s e) at h)))
      (λ e. absurd (not-suc-le-zero (rw (count_while_no c s e) at h)))

  -- what stands behind it fails
  pub count_while_stops : (s : List A) (d : A) → count_while p s < length s → p (get_or s (count_while p s) d) ≡ false
  count_while_stops [] d h = absurd (not-suc-le-zero h)
  count_while_stops (c ∷ s) d h =
      by_test (p c) (λ e. rw (count_while_yes c s e) (count_while_stops s d (le_of_suc-le-suc (rw (count_while_yes c s e) at h))))
      (λ e. rw (count_while_no c s e) e)

  -- it is what these two say: the first k pass, and what stands behind them fails or there is nothing
  pub count_while_is : (s : List A) (k : ℕ) (d : A) → k ≤ length s → ((i : ℕ) → i < k → p (get_or s i d) ≡ true) → (k < length s → p (get_or s k d) ≡ false) → count_while p s ≡ k
  count_while_is [] zero d h f g = refl
  count_while_is [] (suc k) d h f g = absurd (not-suc-le-zero h)
  count_while_is (c ∷ s) zero d h f g = count_while_no c s (g (suc-le-suc zero-le))
  count_while_is (c ∷ s) (suc k) d h f g =
      count_while_yes c s (f zero (suc-le-suc zero-le))
      ∙ ap suc (count_while_is s k d (le_of_suc-le-suc h) (λ i l. f (suc i) (suc-le-suc l)) (λ l. g (suc-le-suc l)))

  -- where it ends before the end it does not see what is appended
  pub count_while_append : (s t : List A) → count_while p s < length s → count_while p (s ++ t) ≡ count_while p s
  count_while_append [] t h = absurd (not-suc-le-zero h)
  count_while_append (c ∷ s) t h =
      by_test (p c) (λ e. rw (count_while_yes c s e, count_while_yes c (s ++ t) e) (ap suc (count_while_append s t (le_of_suc-le-suc (rw (count_while_yes c s e) at h)))))
      (λ e. rw (count_while_no c s e, count_while_no c (s ++ t) e))

  -- of the first n: at most n
  pub count_while_take : (n : ℕ) (s : List A) → count_while p (take n s) ≡ min n (count_while p s)
  count_while_take zero s = omega arith
  count_while_take (suc n) [] = omega arith
  count_while_take (suc n) (c ∷ s) =
      by_test (p c) (λ e. rw (count_while_yes c s e, count_while_yes c (take n s) e) (omega (arith, count_while_take n s)))
      (λ e. rw (count_while_no c s e, count_while_no c (take n s) e) (omega arith))

  -- where each passes it is the whole list
  pub count_while_all : (s : List A) → all p s ≡ true → count_while p s ≡ length s
  count_while_all [] e = refl
  count_while_all (c ∷ s) e = count_while_yes c s (and_left (p c) (all p s) e) ∙ ap suc (count_while_all s (and_right (p c) (all p s) e))

  -- and only there
  pub count_while_whole : (s : List A) → count_while p s ≡ length s → all p s ≡ true
  count_while_whole [] e = refl
  count_while_whole (c ∷ s) e =
      by_test (p c)
      (λ y. let k : suc (count_while p s) ≡ suc (length s) = sym (count_while_yes c s y) ∙ e in and_both (p c) (all p s) y (count_while_whole s (omega arith)))
      (λ n. let k : 0 ≡ suc (length s) = sym (count_while_no c s n) ∙ e in absurd (omega (arith, k)))

  -- behind it none is left
  pub count_while_behind : (s : List A) → count_while p (drop (count_while p s) s) ≡ 0
  count_while_behind [] = refl
  count_while_behind (c ∷ s) = by_test (p c) (λ e. rw (count_while_yes c s e) (count_while_behind s)) (λ e. rw (count_while_no c s e) (count_while_no c s e))

  -- THE ELEMENTS
  -- as many as are counted
  pub length_run : (s : List A) → length (run p s) ≡ count_while p s
  length_run s = rw (length-take (count_while p s) s) (omega (arith, count_while_le s))

  -- one more where the first passes
  pub run_yes : (c : A) (s : List A) → p c ≡ true → run p (c ∷ s) ≡ c ∷ run p s
  run_yes c s e = rw (count_while_yes c s e)

  -- none where the first fails
  pub run_no : (c : A) (s : List A) → p c ≡ false → run p (c ∷ s) ≡ []
  run_no c s e = rw (count_while_no c s e)

  -- each of them passes
  pub run_passes : (s : List A) → all p (run p s) ≡ true
  run_passes [] = refl
  run_passes (c ∷ s) = by_test (p c) (λ e. rw (run_yes c s e) (and_both (p c) (all p (run p s)) e (run_passes s))) (λ e. rw (run_no c s e))

  -- BY POSITION, for a loop that looks whether the end is met
  module _ (s : List A) (i : ℕ) where
    -- the element at i passes: one more than from i + 1 on
    pub count_while_more : (d : A) → i < length s → p (get_or s i d) ≡ true → count_while p (drop i s) ≡ suc (count_while p (drop (i + 1) s))
    count_while_more d h e = rw (drop_next s i d h) (count_while_yes (get_or s i d) (drop (i + 1) s) e)

    -- it fails: none
    pub count_while_stop : (d : A) → i < length s → p (get_or s i d) ≡ false → count_while p (drop i s) ≡ 0
    count_while_stop d h e = rw (drop_next s i d h) (count_while_no (get_or s i d) (drop (i + 1) s) e)

    -- past the end: none
    pub count_while_end : length s ≤ i → count_while p (drop i s) ≡ 0
    count_while_end h = rw (drop_of_length-le s h)

    -- the element at i passes: the end from i on is that from i + 1 on
    pub end_more : (d : A) → i < length s → p (get_or s i d) ≡ true → end_of p s i ≡ end_of p s (i + 1)
    end_more d h e = omega (arith, count_while_more d h e)

    -- it fails: the end is here
    pub end_stop : (d : A) → i < length s → p (get_or s i d) ≡ false → end_of p s i ≡ i
    end_stop d h e = omega (arith, count_while_stop d h e)

    -- past the end: here too
    pub end_past : length s ≤ i → end_of p s i ≡ i
    end_past h = omega (arith, count_while_end h)

    -- the end is not before the position
    pub end_ge : i ≤ end_of p s i
    end_ge = omega arith

    -- nor past the list
    pub end_le : i ≤ length s → end_of p s i ≤ length s
    end_le h = omega (arith, count_while_le (drop i s), length-drop i s)

    -- not before the list's end: there, or at a position past it
    pub end_most : length s ≤ end_of p s i → end_of p s i ≡ max i (length s)
    end_most h = go (dec_lt (length s) i)
      where
        go : Dec (length s < i) → end_of p s i ≡ max i (length s)
        go (yes l) = omega (arith, end_past (omega arith))
        go (no l) = omega (arith, end_le (omega arith))

    -- up to the end each element passes
    pub end_passes : (k : ℕ) (d : A) → i ≤ k → k < end_of p s i → p (get_or s k d) ≡ true
    end_passes k d h l =
        let e : i + (k - i) ≡ k = omega arith in
        rw (get_or-drop i s (k - i) d, e) at (count_while_passes (drop i s) (k - i) d (omega arith))

    -- the element at the end fails
    pub end_stops : (d : A) → end_of p s i < length s → p (get_or s (end_of p s i) d) ≡ false
    end_stops d h = rw (← get_or-drop i s (count_while p (drop i s)) d) (count_while_stops (drop i s) d (omega (arith, length-drop i s)))

    -- the elements from i on: one, and those from i + 1 on
    pub run_more : (d : A) → i < length s → p (get_or s i d) ≡ true → run p (drop i s) ≡ get_or s i d ∷ run p (drop (i + 1) s)
    run_more d h e = rw (drop_next s i d h) (run_yes (get_or s i d) (drop (i + 1) s) e)

    -- none
    pub run_stop : (d : A) → i < length s → p (get_or s i d) ≡ false → run p (drop i s) ≡ []
    run_stop d h e = rw (drop_next s i d h) (run_no (get_or s i d) (drop (i + 1) s) e)

    -- none past the end
    pub run_end : length s ≤ i → run p (drop i s) ≡ []
    run_end h = rw (drop_of_length-le s h)

-- BY POSITION, for a loop that reads a byte, 0 past the end, where 0 is not of the kind: the byte alone says whether it goes on
module _ (p : ℕ → Bool) (none : p 0 ≡ false) (s : List ℕ) (i : ℕ) where
  -- a byte of the kind stands within the list
  pub run_within : p (get_or s i 0) ≡ true → i < length s
  run_within e = go (dec_lt i (length s))
    where
      go : Dec (i < length s) → i < length s
      go (yes h) = h
      go (no h) =
          let out : length s ≤ i = omega arith in
          absurd (false≢true (sym none ∙ rw (get_or-eq_default s 0 out) at e))

  -- the byte is of the kind: one more than from i + 1 on
  pub count_while_on : p (get_or s i 0) ≡ true → count_while p (drop i s) ≡ suc (count_while p (drop (i + 1) s))
  count_while_on e = count_while_more p s i 0 (run_within e) e

  -- it is not: none
  pub count_while_off : p (get_or s i 0) ≡ false → count_while p (drop i s) ≡ 0
  count_while_off e = go (dec_lt i (length s))
    where
      go : Dec (i < length s) → count_while p (drop i s) ≡ 0
      go (yes h) = count_while_stop p s i 0 h e
      go (no h) = count_while_end p s i (omega arith)

  -- the bytes from i on: one, and those from i + 1 on
  pub run_on : p (get_or s i 0) ≡ true → run p (drop i s) ≡ get_or s i 0 ∷ run p (drop (i + 1) s)
  run_on e = run_more p s i 0 (run_within e) e

  -- none
  pub run_off : p (get_or s i 0) ≡ false → run p (drop i s) ≡ []
  run_off e = rw (count_while_off e)

  -- the end from i on is that from i + 1 on
  pub end_on : p (get_or s i 0) ≡ true → end_of p s i ≡ end_of p s (i + 1)
  end_on e = omega (arith, count_while_on e)

  -- the end is here
  pub end_off : p (get_or s i 0) ≡ false → end_of p s i ≡ i
  end_off e = omega (arith, count_while_off e)

  -- the byte at the end is not of the kind
  pub end_byte : p (get_or s (end_of p s i) 0) ≡ false
  end_byte = go (dec_lt (end_of p s i) (length s))
    where
      go : Dec (end_of p s i < length s) → p (get_or s (end_of p s i) 0) ≡ false
      go (yes h) = end_stops p s i 0 h
      go (no h) = ap p (get_or-eq_default s 0 {n = end_of p s i} (omega arith)) ∙ none

-- A WIDER TEST
module _ {ℓ} {A : Type ℓ} (p q r : A → Bool) (pr : (c : A) → p c ≡ true → r c ≡ true) (qr : (c : A) → q c ≡ true → r c ≡ true) where
  -- what passes one test passes a wider one
  pub count_while_wider : (s : List A) → count_while q s ≤ count_while r s
  count_while_wider [] = zero-le
  count_while_wider (c ∷ s) =
      by_test (q c) (λ e. rw (count_while_yes q c s e, count_while_yes r c s (qr c e)) (suc-le-suc (count_while_wider s))) (λ e. rw (count_while_no q c s e) zero-le)

  -- two kinds, one after the other, within a wider one
  pub spans_wider : (s : List A) → count_while p s + count_while q (drop (count_while p s) s) ≤ count_while r s
  spans_wider [] = zero-le
  spans_wider (c ∷ s) =
      by_test (p c) (λ e. rw (count_while_yes p c s e, count_while_yes r c s (pr c e)) (omega (arith, spans_wider s)))
      (λ e. rw (count_while_no p c s e) (omega (arith, count_while_wider (c ∷ s))))
