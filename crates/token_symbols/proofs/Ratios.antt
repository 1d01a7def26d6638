-- Tuplets, by position.
use Prim.Native.Nat.{ℕ, ◌+◌, ◌-◌, ◌^◌, ◌≤◌, ◌<◌}
use mathlib.Core.Path.{◌≡◌, refl, sym, ap, ◌∙◌}
use mathlib.Core.Bool.{true, false}
use mathlib.Core.Option.{Option, none, some}
use mathlib.Core.List.{List}
use native.Mathlib.Omega.{arith}
use lib.Dec.{eqb}
use lib.ListN.{get_or, drop}
use lib.Seq.{drop-drop}
use borrow.Author.Tests.{lt-ltb, le-ltb, eq-eqb, ne_eqb}
use Rattle.laws.specs.Lists.{count_while}
use Rattle.laws.specs.Spans.{run, end_of}
use Rattle.laws.proofs.Bools.{by_test}
use Rattle.laws.proofs.Lists.{first_at}
use Rattle.standard.specs.Bytes.{is_digit, first, digits}
use Rattle.editions.specs.declared.Edition.{Edition}
use Rattle.editions.specs.declared.Edition.TheVariants.{First, Second}
use Rattle.reader.specs.Tuplets.{not_zero, positive, normal_for, tuplet_token, counted, with_count, with_normal, with_actual, tuplet_of, part_or}
use Rattle.std.specs.Prelude as code
use Rattle.std.specs.Prelude.{Result, Ok, Err}
use Rattle.std.specs.Result.{result_ok}
use Rattle.text_bytes.specs.declared.Read.{Read}
use Rattle.text_bytes.specs.Options.{option}
use Rattle.text_numbers.specs.declared.NumberError.{NumberError}
use Rattle.text_numbers.specs.Digits.{written}
use Rattle.text_numbers.proofs.Numbers.{option_run}
use Rattle.reader.proofs.Digits.{digits_le}
use Rattle.token_symbols.specs.Tuplets.{number_for, tuplet_read, tuplet_in, tuplet_for}

-- NUMBERS
-- of the digits at the front
module _ (top : ℕ) (s : List ℕ) (d : Result ℕ NumberError) (e : written top (run is_digit s) ≡ d) where
  positive_by : positive top s ≡ not_zero (option (result_ok d))
  unfolding positive
  positive_by = ap not_zero (sym (option_run top s) ∙ ap (λ x. option (result_ok x)) e)

  pub no_value : ((v : ℕ) → d ≡ Ok v → ⊥) → positive top s ≡ none
  unfolding not_zero
  no_value n = positive_by ∙ go d n
    where
      go : (x : Result ℕ NumberError) → ((v : ℕ) → x ≡ Ok v → ⊥) → not_zero (option (result_ok x)) ≡ none
      go (Ok v) k = absurd (k v refl)
      go (Err x) k = refl

  pub is_zero : (v : ℕ) → d ≡ Ok v → v ≡ 0 → positive top s ≡ none
  unfolding not_zero
  is_zero v k z = positive_by ∙ ap (λ x. not_zero (option (result_ok x))) k ∙ rw z

  pub is_value : (v : ℕ) → d ≡ Ok v → (v ≡ 0 → ⊥) → positive top s ≡ some v
  unfolding not_zero
  is_value v k z = positive_by ∙ ap (λ x. not_zero (option (result_ok x))) k ∙ rw (ne_eqb v 0 z)

-- a number that is not 0 is a number
not_zero_lem : (o : Option ℕ) (v : ℕ) → not_zero o ≡ some v → o ≡ some v
unfolding not_zero
not_zero_lem none v e = e
not_zero_lem (some x) v e = by_test (eqb x 0) (λ t. let k : none ≡ some v = rw t at e in let z : ◌≡◌ {A = ℕ} 0 1 = cc in absurd (omega arith)) (λ t. rw t at e)

-- a number is at most the bound
pub positive_le : (top : ℕ) (s : List ℕ) (v : ℕ) → positive top s ≡ some v → v ≤ top
unfolding positive
positive_le top s v e = digits_le top (run is_digit s) v (not_zero_lem (digits top (run is_digit s)) v e)

-- so is a part, where its default is
pub part_le : (ed : Edition) (default top : ℕ) (s : List ℕ) (v : ℕ) → default ≤ top → part_or ed default top s ≡ some v → v ≤ top
unfolding part_or
part_le First default top s v h e = positive_le top s v e
part_le Second default top s v h e =
    by_test (is_digit (first s)) (λ d. positive_le top s v (rw (d, part_or) at e))
    (λ d. let k : some default ≡ some v = rw (d, part_or) at e in let q : default ≡ v = cc in omega arith)

-- the second edition's part by its first byte
pub part_written : (default top : ℕ) (line : List ℕ) (at : ℕ) → is_digit (get_or line at 0) ≡ true → part_or Second default top (drop at line) ≡ positive top (drop at line)
unfolding part_or
part_written default top line at d = rw (ap is_digit (first_at line at) ∙ d, part_or)

pub part_empty : (default top : ℕ) (line : List ℕ) (at : ℕ) → is_digit (get_or line at 0) ≡ false → part_or Second default top (drop at line) ≡ some default
unfolding part_or
part_empty default top line at d = rw (ap is_digit (first_at line at) ∙ d, part_or)

-- in the code's type
pub number_none : (next : ℕ) (o : Option ℕ) → number_for next o ≡ code.None → o ≡ none
unfolding number_for
number_none next none e = refl
number_none next (some v) e = let z : ◌≡◌ {A = ℕ} 0 1 = cc in absurd (omega arith)

pub number_some : (next : ℕ) (o : Option ℕ) (v n : ℕ) → number_for next o ≡ code.Some (record { value = v; next = n }) → (o ≡ some v) × (n ≡ next)
unfolding number_for
number_some next none v n e = let z : ◌≡◌ {A = ℕ} 0 1 = cc in absurd (omega arith)
number_some next (some w) v n e =
    let r : ◌≡◌ {A = Read ℕ} (record { value = w; next = next }) (record { value = v; next = n }) = cc in
    (ap (λ (x : Read ℕ). some x.value) r, sym (ap (λ (x : Read ℕ). x.next) r))

-- TUPLETS
-- a tuplet that is read
read : (at p q r n : ℕ) → at ≤ n → tuplet_read p q r n ≡ tuplet_for at (tuplet_token p q r (n - at))
unfolding tuplet_for tuplet_in
read at p q r n h = let e : n ≡ at + (n - at) = omega arith in ap (tuplet_read p q r) e

module _ (ed : Edition) (line : List ℕ) (at a1 : ℕ) (k1 : a1 ≡ end_of is_digit line (at + 1)) where
  begun : tuplet_of ed (drop (at + 1) line) ≡ with_actual ed (a1 - at) (drop a1 line) (positive 255 (drop (at + 1) line))
  unfolding tuplet_of
  begun =
      let n : 1 + count_while is_digit (drop (at + 1) line) ≡ a1 - at = omega (arith, k1) in
      let d : drop (count_while is_digit (drop (at + 1) line)) (drop (at + 1) line) ≡ drop a1 line = drop-drop (count_while is_digit (drop (at + 1) line)) (at + 1) line ∙ ap (λ k. drop k line) (sym k1) in
      rw (n, d)

  -- no actual
  pub no_actual : positive 255 (drop (at + 1) line) ≡ none → code.None ≡ tuplet_for at (tuplet_of ed (drop (at + 1) line))
  unfolding with_actual tuplet_for
  no_actual e = rw (begun, e)

  module _ (p : ℕ) (e : positive 255 (drop (at + 1) line) ≡ some p) where
    -- "Actual below 2"
    pub one_note : p < 2 → code.None ≡ tuplet_for at (tuplet_of ed (drop (at + 1) line))
    unfolding with_actual tuplet_for
    one_note h = rw (begun, e, lt-ltb p 2 h, with_actual)

    module _ (h : 2 ≤ p) where
      -- no colon behind it
      pub actual_alone : (get_or line a1 0 ≡ 58 → ⊥) → (q : ℕ) → q ≡ normal_for ed p → tuplet_read p q p a1 ≡ tuplet_for at (tuplet_of ed (drop (at + 1) line))
      unfolding with_actual
      actual_alone c q k =
          let b : eqb (first (drop a1 line)) 58 ≡ false = ne_eqb _ 58 (λ x. c (sym (first_at line a1) ∙ x)) in
          rw (begun, e, le-ltb p 2 h, with_actual) (rw (b, k) (read at p (normal_for ed p) p a1 (omega (arith, k1))))

      module _ (c : get_or line a1 0 ≡ 58) (a2 : ℕ) (k2 : a2 ≡ end_of is_digit line (a1 + 1)) where
        behind : drop 1 (drop a1 line) ≡ drop (a1 + 1) line
        behind = drop-drop 1 a1 line

        with_normal_lem : tuplet_of ed (drop (at + 1) line) ≡ with_normal ed p (a1 - at) (drop a1 line) (part_or ed (normal_for ed p) 255 (drop (a1 + 1) line))
        unfolding with_actual
        with_normal_lem =
            let b : eqb (first (drop a1 line)) 58 ≡ true = eq-eqb _ 58 (first_at line a1 ∙ c) in
            rw (begun, e, le-ltb p 2 h, with_actual) (rw (b, behind))

        -- "normal 0 or above 255 .. or an empty part"
        pub no_normal : part_or ed (normal_for ed p) 255 (drop (a1 + 1) line) ≡ none → code.None ≡ tuplet_for at (tuplet_of ed (drop (at + 1) line))
        unfolding with_normal tuplet_for
        no_normal f = rw (with_normal_lem, f)

        module _ (q : ℕ) (f : part_or ed (normal_for ed p) 255 (drop (a1 + 1) line) ≡ some q) where
          with_count_lem : tuplet_of ed (drop (at + 1) line) ≡ with_count ed p q (a2 - at) (drop a2 line)
          unfolding with_normal
          with_count_lem =
              let n : a1 - at + 1 + count_while is_digit (drop (a1 + 1) line) ≡ a2 - at = omega (arith, k1, k2) in
              let d : a1 + (1 + count_while is_digit (drop (a1 + 1) line)) ≡ a2 = omega (arith, k2) in
              let g : drop (1 + count_while is_digit (drop (a1 + 1) line)) (drop a1 line) ≡ drop a2 line = drop-drop (1 + count_while is_digit (drop (a1 + 1) line)) a1 line ∙ ap (λ k. drop k line) d in
              rw (with_normal_lem, f) (rw (behind, n, g))

          -- no colon behind it
          pub normal_alone : (get_or line a2 0 ≡ 58 → ⊥) → tuplet_read p q p a2 ≡ tuplet_for at (tuplet_of ed (drop (at + 1) line))
          unfolding with_count
          normal_alone x =
              let b : eqb (first (drop a2 line)) 58 ≡ false = ne_eqb _ 58 (λ y. x (sym (first_at line a2) ∙ y)) in
              rw with_count_lem (rw (b, with_count) (read at p q p a2 (omega (arith, k1, k2))))

          module _ (x : get_or line a2 0 ≡ 58) (a3 : ℕ) (k3 : a3 ≡ end_of is_digit line (a2 + 1)) where
            with_counted : tuplet_of ed (drop (at + 1) line) ≡ counted p q (a3 - at) (part_or ed p (2 ^ 64 - 1) (drop (a2 + 1) line))
            unfolding with_count
            with_counted =
                let b : eqb (first (drop a2 line)) 58 ≡ true = eq-eqb _ 58 (first_at line a2 ∙ x) in
                let n : a2 - at + 1 + count_while is_digit (drop (a2 + 1) line) ≡ a3 - at = omega (arith, k1, k2, k3) in
                rw with_count_lem (rw (b, with_count) (rw (drop-drop 1 a2 line, n)))

            -- "count 0 or past 64 bits"
            pub no_count : part_or ed p (2 ^ 64 - 1) (drop (a2 + 1) line) ≡ none → code.None ≡ tuplet_for at (tuplet_of ed (drop (at + 1) line))
            unfolding counted tuplet_for
            no_count g = rw (with_counted, g)

            pub all_three : (r : ℕ) → part_or ed p (2 ^ 64 - 1) (drop (a2 + 1) line) ≡ some r → tuplet_read p q r a3 ≡ tuplet_for at (tuplet_of ed (drop (at + 1) line))
            unfolding counted
            all_three r g = rw (with_counted, g) (read at p q r a3 (omega (arith, k1, k2, k3)))
