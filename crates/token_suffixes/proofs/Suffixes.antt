-- The numbers and the slashes of a length suffix, by position.
use Prim.Native.Nat.{ℕ, suc, ◌+◌, ◌-◌, ◌*◌, ◌%◌, ◌^◌, ◌≤◌, ◌<◌}
use mathlib.Core.Path.{◌≡◌, refl, sym, ap, ◌∙◌}
use mathlib.Core.Bool.{Bool, true, false, cond, false≢true}
use mathlib.Core.List.{List, [], ◌∷◌}
use native.Mathlib.Nat.{add-zero}
use native.Mathlib.Omega.{arith}
use lib.Dec.{leb, ltb, eqb}
use lib.ListN.{length, get_or, take, drop}
use lib.Seq.{drop-drop}
use borrow.Author.Tests.{leb-true, leb-false, le-leb, lt-ltb, le-ltb, eq-eqb, ne_eqb, eqb-true}
use Rattle.laws.specs.Lists.{count_while}
use Rattle.laws.specs.Spans.{run, end_of}
use Rattle.laws.proofs.Bools.{by_test}
use Rattle.laws.proofs.Finite.{below}
use Rattle.laws.proofs.Lists.{first_at, first_on}
use Rattle.laws.proofs.Spans.{count_while_yes, count_while_no, count_while_on, count_while_off, run_on, run_off, run_within}
use Rattle.standard.specs.Bytes.{is_digit, is, first, decimal}
use Rattle.editions.specs.declared.Edition.{Edition}
use Rattle.editions.specs.declared.Edition.TheVariants.{First, Second}
use Rattle.reader.specs.Lengths.{Length, number, slashes, length_over, length_of, many_slashes}
use Rattle.std.specs.Prelude.{Result, Ok, Err}
use Rattle.refusals.specs.declared.Refusal.{Refusal}
use Rattle.text_bytes.specs.declared.Read.{Read}
use Rattle.text_numbers.specs.declared.NumberError.{NumberError}
use Rattle.text_numbers.specs.Digits.{up_to, written, number_at}
use Rattle.reader.proofs.Digits.{digit_high}
use Rattle.text_numbers.proofs.Numbers.{value_le}
use Rattle.reader.proofs.LengthLaws.{no_slash, first_slash, lone_slash, length_by, many_by, over_many}
use Rattle.token_suffixes.specs.declared.Fraction.{Fraction}
use Rattle.token_suffixes.specs.Suffixes.{suffix_read, suffix_refused, number_or, is_run, halved_for, halved_by, suffix_at}

-- a number, or another where there is none
abbrev pub or_else : ℕ → Result ℕ NumberError → ℕ
or_else d (Ok v) = v
or_else d (Err e) = d

-- up to 32 bits
up_to_32 : (d v : ℕ) → or_else d (up_to (2 ^ 32 - 1) v) ≡ cond (ltb v (2 ^ 32)) v d
up_to_32 d v =
    by_test (leb v (2 ^ 32 - 1)) (λ e. rw (e, lt-ltb v (2 ^ 32) (omega (arith, leb-true v (2 ^ 32 - 1) e))))
    (λ e. rw (e, le-ltb v (2 ^ 32) (omega (arith, leb-false v (2 ^ 32 - 1) e))))

-- the reader's number is that of the digits at the front
pub number_run : (d : ℕ) (s : List ℕ) → or_else d (written (2 ^ 32 - 1) (run is_digit s)) ≡ number d (count_while is_digit s) s
unfolding written number
number_run d [] = refl
number_run d (c ∷ s) =
    by_test (is_digit c) (λ e. rw (count_while_yes is_digit c s e) (up_to_32 d (decimal 0 (c ∷ take (count_while is_digit s) s))))
    (λ e. rw (count_while_no is_digit c s e))

-- by position: what was read is x
pub number_at_lem : (d : ℕ) (line : List ℕ) (at : ℕ) (r : Read (Result ℕ NumberError)) → r ≡ number_at (2 ^ 32 - 1) line at → (x : Result ℕ NumberError) → r.value ≡ x
    → record { value = or_else d x; next = r.next } ≡ number_or d line at
unfolding number_at number_or
number_at_lem d line at r e x f = rw (← f, e, number_run d (drop at line))

-- no digit
pub number_none : (d : ℕ) (line : List ℕ) (at : ℕ) → is_digit (get_or line at 0) ≡ false → record { value = d; next = at } ≡ number_or d line at
unfolding number_or number
number_none d line at n = rw (count_while_off is_digit refl line at n, add-zero at)

-- one digit
pub number_one : (d : ℕ) (line : List ℕ) (at : ℕ) → is_digit (get_or line at 0) ≡ true → is_digit (get_or line (at + 1) 0) ≡ false
    → record { value = get_or line at 0 - 48; next = at + 1 } ≡ number_or d line at
unfolding number_or written decimal
number_one d line at y n =
    let c = get_or line at 0 in
    let one : run is_digit (drop at line) ≡ c ∷ [] = run_on is_digit refl line at y ∙ ap (λ s. c ∷ s) (run_off is_digit refl line (at + 1) n) in
    let z : 0 * 10 + (c - 48) ≡ c - 48 = omega arith in
    let small : leb (c - 48) (2 ^ 32 - 1) ≡ true = le-leb (c - 48) (2 ^ 32 - 1) (omega (arith, digit_high c y)) in
    let v : number d (count_while is_digit (drop at line)) (drop at line) ≡ c - 48 = sym (number_run d (drop at line)) ∙ ap (λ s. or_else d (written (2 ^ 32 - 1) s)) one ∙ rw (z, small) refl in
    let k : count_while is_digit (drop at line) ≡ 1 = count_while_on is_digit refl line at y ∙ ap suc (count_while_off is_digit refl line (at + 1) n) in
    λ i. record { value = sym v i; next = at + sym k i }

-- a slash at a position
slash_at : (line : List ℕ) (i : ℕ) → get_or line i 0 ≡ 47 → is "/" (first (drop i line)) ≡ true
slash_at line i h = rw (first_at line i) (eq-eqb _ _ h)

-- one counts
one : (ed : Edition) (line : List ℕ) (i : ℕ) → get_or line i 0 ≡ 47 → is_run ed line i ≡ false → slashes ed (drop i line) ≡ 1
unfolding is_run
one First line i h r = first_slash (drop i line) (slash_at line i h)
one Second line i h r = lone_slash Second (drop i line) (slash_at line i h) (rw (first_on line i 1) r)

-- two or more
two : (line : List ℕ) (i : ℕ) → get_or line i 0 ≡ 47 → is "/" (get_or line (i + 1) 0) ≡ true → 2 ≤ count_while (is "/") (drop i line)
two line i h r =
    let a = count_while_on (is "/") refl line i (eq-eqb _ _ h) in
    let b = count_while_on (is "/") refl line (i + 1) r in
    omega (arith, a, b)

module _ (ed : Edition) (line : List ℕ) (at : ℕ) where
  -- the numerator's digits, and the place behind them
  abbrev width : ℕ
  width = count_while is_digit (drop at line)

  slash_there : drop width (drop at line) ≡ drop (at + width) line
  slash_there = drop-drop width at line

  abbrev read_as : Length → Result (Read Fraction) Refusal
  read_as l = suffix_read l.num l.den (at + l.used)

  -- k slashes count
  module _ (k : ℕ) (e : slashes ed (drop (at + width) line) ≡ k) where
    counted : slashes ed (drop width (drop at line)) ≡ k
    counted = ap (slashes ed) slash_there ∙ e

    many : many_slashes ed (drop at line) ≡ ltb 31 k
    many = many_by ed (drop at line) k counted

    -- 31 at most
    by_count : ltb 31 k ≡ false → read_as (length_over (number 1 width (drop at line)) width k (drop (width + k) (drop at line))) ≡ suffix_at ed line at
    unfolding suffix_at
    by_count m = ap read_as (sym (length_by ed (drop at line) k counted)) ∙ rw (many ∙ m, suffix_at)

    -- or more
    by_more : ltb 31 k ≡ true → suffix_refused ≡ suffix_at ed line at
    unfolding suffix_at
    by_more m = rw (many ∙ m, suffix_at)

  -- no slash: the numerator alone
  pub suffix_plain : (get_or line (number_or 1 line at).next 0 ≡ 47 → ⊥) → suffix_read (number_or 1 line at).value 1 (number_or 1 line at).next ≡ suffix_at ed line at
  unfolding number_or length_over
  suffix_plain h = by_count 0 (no_slash ed (drop (at + width) line) (rw (first_at line (at + width)) (ne_eqb _ _ h))) refl

  -- one slash, and the denominator
  pub suffix_slash : get_or line (number_or 1 line at).next 0 ≡ 47 → is_run ed line (number_or 1 line at).next ≡ false
      → suffix_read (number_or 1 line at).value (number_or 2 line ((number_or 1 line at).next + 1)).value (number_or 2 line ((number_or 1 line at).next + 1)).next ≡ suffix_at ed line at
  unfolding number_or length_over
  suffix_slash h r =
      let j : at + (width + 1) ≡ at + width + 1 = omega arith in
      let t : drop (width + 1) (drop at line) ≡ drop (at + width + 1) line = drop-drop (width + 1) at line ∙ ap (λ i. drop i line) j in
      let k : at + width + 1 + count_while is_digit (drop (at + width + 1) line) ≡ at + (width + 1 + count_while is_digit (drop (at + width + 1) line)) = omega arith in
      rw k (rw t at (by_count 1 (one ed line (at + width) h r) refl))

-- two slashes or more
pub suffix_run : (ed : Edition) (line : List ℕ) (at : ℕ) → get_or line (number_or 1 line at).next 0 ≡ 47 → is_run ed line (number_or 1 line at).next ≡ true
    → halved_by (number_or 1 line at).value line (number_or 1 line at).next ≡ suffix_at ed line at
unfolding is_run number_or halved_for slashes
suffix_run First line at h r = absurd (false≢true r)
suffix_run Second line at h r =
    let n = count_while is_digit (drop at line) in
    let k = count_while (is "/") (drop (at + n) line) in
    let j : at + n + k ≡ at + (n + k) = omega arith in
    by_test (ltb 31 k) (λ m. rw (m, halved_for) (by_more Second line at k refl m))
    (λ m. rw (m, halved_for) (rw j (rw (over_many (number 1 n (drop at line)) n k (drop (n + k) (drop at line)) (two line (at + n) h r)) at (by_count Second line at k refl m))))

-- HALVINGS: the slashes from a position on, which end at e
shifted : ℕ → Bool
shifted k = eqb (1 * 2 ^ k % 4294967296) (2 ^ k)

pub power : (k : ℕ) → k < 32 → 1 * 2 ^ k % 4294967296 ≡ 2 ^ k
unfolding shifted
power k h = eqb-true _ _ (below 32 shifted refl k h)

module _ (num : ℕ) (line : List ℕ) (at e : ℕ) (h : e ≡ end_of (is "/") line at) where
  count_is : e - at ≡ count_while (is "/") (drop at line)
  count_is = omega (arith, h)

  pub too_many : 31 < e - at → suffix_refused ≡ halved_by num line at
  unfolding halved_for
  too_many m = rw (lt-ltb 31 (count_while (is "/") (drop at line)) (omega (arith, m, count_is)), halved_for)

  pub not_too_many : e - at ≤ 31 → suffix_read num (1 * 2 ^ (e - at) % 4294967296) e ≡ halved_by num line at
  unfolding halved_for
  not_too_many m =
      let l : e - at < 32 = omega (arith, m) in
      let f : ltb 31 (count_while (is "/") (drop at line)) ≡ false = le-ltb 31 (count_while (is "/") (drop at line)) (omega (arith, l, count_is)) in
      (λ i. suffix_read num ((power (e - at) l ∙ ap (λ k. 2 ^ k) count_is) i) (h i)) ∙ rw (f, halved_for)

-- a slash stands within the line
pub slash_within : (line : List ℕ) (i : ℕ) → get_or line i 0 ≡ 47 → i < length line
slash_within line i e = run_within (λ c. eqb c 47) refl line i (eq-eqb _ _ e)

-- a number that was read fits 32 bits
pub number_small : (line : List ℕ) (at v : ℕ) → (number_at (2 ^ 32 - 1) line at).value ≡ Ok v → v ≤ 2 ^ 32 - 1
unfolding number_at
number_small line at v e = value_le (2 ^ 32 - 1) (run is_digit (drop at line)) v e

-- WHAT A SUFFIX SAYS: refusal 22, or a length
module _ (ed : Edition) (line : List ℕ) (at : ℕ) where
  pub was_refused : ((x : Read Fraction) → suffix_at ed line at ≡ Ok x → ⊥) → many_slashes ed (drop at line) ≡ true
  unfolding suffix_at
  was_refused n =
      by_test (many_slashes ed (drop at line)) (λ m. m)
      (λ m. absurd (n (record { value = record { num = (length_of ed (drop at line)).num; den = (length_of ed (drop at line)).den }; next = at + (length_of ed (drop at line)).used }) (rw (m, suffix_at))))

  pub record WasRead (num den next : ℕ) : Type 0 where
    pub few : many_slashes ed (drop at line) ≡ false
    pub num_is : num ≡ (length_of ed (drop at line)).num
    pub den_is : den ≡ (length_of ed (drop at line)).den
    pub next_is : next ≡ at + (length_of ed (drop at line)).used

  pub was_read : (num den next : ℕ) → suffix_at ed line at ≡ suffix_read num den next → WasRead num den next
  unfolding suffix_at
  was_read num den next e =
      by_test (many_slashes ed (drop at line))
      (λ m. let q : suffix_refused ≡ suffix_read num den next = rw (m, suffix_at) at e in let z : ◌≡◌ {A = ℕ} 0 1 = cc in absurd (omega (arith, z)))
      (λ m. let q : read_as ed line at (length_of ed (drop at line)) ≡ suffix_read num den next = rw (m, suffix_at) at e in
      let l = length_of ed (drop at line) in
      let r : ◌≡◌ {A = Read Fraction} (record { value = record { num = l.num; den = l.den }; next = at + l.used }) (record { value = record { num = num; den = den }; next = next }) = cc in
      record {
        few = m;
        num_is = sym (ap (λ (x : Read Fraction). x.value.num) r);
        den_is = sym (ap (λ (x : Read Fraction). x.value.den) r);
        next_is = sym (ap (λ (x : Read Fraction). x.next) r);
      })
