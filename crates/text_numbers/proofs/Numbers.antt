-- The digits of a run, taken one after the other, write what `written` says of the whole run; and that is the standard's `digits`.
use Prim.Native.Nat.{ℕ, max, ◌+◌, ◌-◌, ◌*◌, ◌≤◌, ◌<◌}
use mathlib.Core.Path.{◌≡◌, refl, sym, ◌∙◌}
use mathlib.Core.Bool.{Bool, true, false, cond}
use mathlib.Core.Option.{none}
use mathlib.Core.List.{List, [], ◌∷◌}
use native.Mathlib.Omega.{arith}
use lib.Dec.{leb, eqb}
use lib.ListN.{length, get_or, get_or-eq_default, take, drop, length-drop}
use lib.Seq.{take_all}
use borrow.Author.Tests.{lt-leb, leb-true, leb-false, eq-eqb, ne_eqb}
use Rattle.laws.specs.Lists.{all, count_while}
use Rattle.laws.specs.Spans.{run, end_of}
use Rattle.laws.proofs.Bools.{by_test}
use Rattle.laws.proofs.Spans.{run_within, run_on, run_off, end_on, end_off, run_passes, end_most, count_while_all, count_while_whole, count_while_le}
use Rattle.standard.specs.Bytes.{is_digit, decimal, digits}
use Rattle.std.specs.Prelude.{Result, Ok, Err}
use Rattle.text_bytes.specs.declared.Read.{Read}
use Rattle.std.specs.Result.{result_ok}
use Rattle.text_bytes.specs.Options.{option}
use Rattle.text_numbers.specs.declared.NumberError.{NumberError}
use Rattle.text_numbers.specs.declared.NumberError.TheVariants.{Empty, TooLarge}
use Rattle.reader.specs.Pieces.{numeral}
use Rattle.reader.proofs.Digits.{decimal_grows, digits_other}
use Rattle.text_numbers.specs.Digits.{most, up_to, written, with_digit, at_most, number_at}

-- THE LOOP
-- the digits of a list, after what was read before
pub fold : Result ℕ NumberError → List ℕ → Result ℕ NumberError
fold n [] = n
fold n (c ∷ s) = fold (with_digit n c) s

fold_too_large : (s : List ℕ) → fold (Err TooLarge) s ≡ Err TooLarge
unfolding fold with_digit
fold_too_large [] = refl
fold_too_large (c ∷ s) = fold_too_large s

-- a number so far, or one past 64 bits, goes on as the number does
fold_up_to : (n : ℕ) (s : List ℕ) → fold (up_to most n) s ≡ up_to most (decimal n s)
unfolding fold with_digit decimal
fold_up_to n [] = refl
fold_up_to n (c ∷ s) = go (leb n most) refl (fold_up_to (n * 10 + (c - 48)) s)
  where
    go : (x : Bool) → leb n most ≡ x → fold (up_to most (n * 10 + (c - 48))) s ≡ up_to most (decimal (n * 10 + (c - 48)) s)
        → fold (with_digit (cond x (Ok n) (Err TooLarge)) c) s ≡ up_to most (decimal (n * 10 + (c - 48)) s)
    go true e r = r
    go false e r =
        let far : most < decimal (n * 10 + (c - 48)) s = omega (arith, leb-false n most e, decimal_grows (n * 10 + (c - 48)) s) in
        rw (lt-leb _ _ far) (fold_too_large s)

fold_all : (s : List ℕ) → fold (Err Empty) s ≡ written most s
unfolding fold with_digit written decimal
fold_all [] = refl
fold_all (c ∷ s) = fold_up_to (0 * 10 + (c - 48)) s

-- the loop of `read_digits` at i, with n so far: the digits from i on end where those from `at` on end, and with n they write what those write
pub record Reading (line : List ℕ) (at : ℕ) (n : Result ℕ NumberError) (i : ℕ) : Type 0 where
  pub end : end_of is_digit line i ≡ end_of is_digit line at
  pub same : fold n (run is_digit (drop i line)) ≡ fold (Err Empty) (run is_digit (drop at line))

pub reading_start : (line : List ℕ) (at : ℕ) → Reading line at (Err Empty) at
reading_start line at = record { end = refl; same = refl }

module _ (line : List ℕ) (at : ℕ) (n : Result ℕ NumberError) (i : ℕ) (r : Reading line at n i) where
  pub reading_on : is_digit (get_or line i 0) ≡ true → Reading line at (with_digit n (get_or line i 0)) (i + 1)
  unfolding fold
  reading_on d = record {
    end = sym (end_on is_digit refl line i d) ∙ r.end;
    same = rw (run_on is_digit refl line i d) at r.same;
  }

  pub reading_end : is_digit (get_or line i 0) ≡ false → end_of is_digit line at ≡ i
  reading_end d = sym r.end ∙ end_off is_digit refl line i d

  pub reading_over : is_digit (get_or line i 0) ≡ false → written most (run is_digit (drop at line)) ≡ n
  unfolding fold
  reading_over d = sym (fold_all (run is_digit (drop at line))) ∙ sym (rw (run_off is_digit refl line i d) at r.same)

  -- at the end of the line, or past it
  pub reading_past : length line ≤ i → number_at most line at ≡ record { value = n; next = max at (length line) }
  unfolding number_at
  reading_past h =
      let off : is_digit (get_or line i 0) ≡ false = rw (get_or-eq_default line 0 {n = i} h) in
      let e : end_of is_digit line at ≡ i = reading_end off in
      let k : end_of is_digit line at ≡ max at (length line) = end_most is_digit line at (omega arith) in
      rw (reading_over off, k)

-- A LOWER BOUND
-- what is written up to a bound of 64 bits
pub at_most_written : (top : ℕ) (s : List ℕ) → top ≤ most → at_most top (written most s) ≡ written top s
unfolding written
at_most_written top [] h = refl
at_most_written top (c ∷ s) h = go (decimal 0 (c ∷ s))
  where
    go : (v : ℕ) → at_most top (up_to most v) ≡ up_to top v
    go v = by_test (leb v most) (λ e. rw e) (λ e. rw (e, lt-leb v top (omega (arith, leb-false v most e))))

-- the same of a number at a position
pub at_most_at : (top : ℕ) (s : List ℕ) (at : ℕ) → top ≤ most
    → record { value = at_most top (number_at most s at).value; next = (number_at most s at).next } ≡ number_at top s at
unfolding number_at
at_most_at top s at h = rw (at_most_written top (run is_digit (drop at s)) h)

-- a number that is not past the bound
pub value_le : (top : ℕ) (s : List ℕ) (v : ℕ) → written top s ≡ Ok v → v ≤ top
unfolding written
value_le top [] v e = absurd (no e)
  where
    no : Err Empty ≡ Ok v → ⊥
    no p = let z : ◌≡◌ {A = ℕ} 0 1 = cc in omega arith
value_le top (c ∷ s) v e = go (decimal 0 (c ∷ s)) e
  where
    go : (n : ℕ) → up_to top n ≡ Ok v → v ≤ top
    go n p = by_test (leb n top) (λ q. let k : Ok n ≡ Ok v = rw q at p in let m : n ≡ v = cc in omega (arith, leb-true n top q))
        (λ q. let k : Err TooLarge ≡ Ok v = rw q at p in let z : ◌≡◌ {A = ℕ} 0 1 = cc in absurd (omega arith))

-- THE STANDARD'S NUMBER
-- of a text that is all digits
pub option_digits : (top : ℕ) (s : List ℕ) → all is_digit s ≡ true → option (result_ok (written top s)) ≡ digits top s
unfolding written digits
option_digits top [] h = refl
option_digits top (c ∷ s) h =
    by_test (leb (decimal 0 (c ∷ s)) top) (λ e. rw (e, h, digits)) (λ e. rw (e, h, digits))

-- of the digits at the front
pub option_run : (top : ℕ) (s : List ℕ) → option (result_ok (written top (run is_digit s))) ≡ digits top (run is_digit s)
option_run top s = option_digits top (run is_digit s) (run_passes is_digit s)

-- A WHOLE TEXT
module _ (top : ℕ) (s : List ℕ) (r : Read (Result ℕ NumberError)) (e : r ≡ number_at top s 0) where
  -- the digits end before the text does
  pub whole_short : r.next < length s → digits top s ≡ none
  unfolding number_at
  whole_short h = digits_other top s (by_test (all is_digit s) (λ a. absurd (omega (arith, count_while_all is_digit s a, rw e at h))) (λ n. n))

  -- they are the text
  pub whole_all : length s ≤ r.next → option (result_ok r.value) ≡ digits top s
  unfolding number_at
  whole_all h =
      let n : count_while is_digit s ≡ length s = omega (arith, count_while_le is_digit s, rw e at h) in
      let k : run is_digit s ≡ s = rw n (take_all (length s) s (omega arith)) in
      rw (e, k) (option_digits top s (count_while_whole is_digit s n))

-- with a plus sign, and without one
pub numeral_plus : (top : ℕ) (s : List ℕ) → get_or s 0 0 ≡ 43 → numeral top s ≡ digits top (drop 1 s)
unfolding numeral
numeral_plus top s e = rw (eq-eqb _ _ e, numeral)

pub numeral_plain : (top : ℕ) (s : List ℕ) → (get_or s 0 0 ≡ 43 → ⊥) → numeral top s ≡ digits top s
unfolding numeral
numeral_plain top s n = rw (ne_eqb _ _ n, numeral)

-- a plus sign stands within the text
pub plus_within : (s : List ℕ) → get_or s 0 0 ≡ 43 → 1 ≤ length s
plus_within s e = run_within (λ c. eqb c 43) refl s 0 (eq-eqb _ _ e)

-- the text behind it
pub plus_rest : (s : List ℕ) → take (length s - 1) (drop 1 s) ≡ drop 1 s
plus_rest s = take_all (length s - 1) (drop 1 s) (simp length-drop (omega arith))
