-- Numbers and items of a pass list, by position.
use Prim.Native.Nat.{ℕ, suc, ◌+◌, ◌-◌, ◌≤◌, ◌<◌}
use mathlib.Core.Path.{◌≡◌, refl, sym, ap, ◌∙◌}
use mathlib.Core.Bool.{true, false, ◌&&◌}
use mathlib.Core.Option.{Option, none, some}
use mathlib.Core.List.{List, [], ◌∷◌}
use native.Mathlib.Omega.{arith}
use lib.Dec.{ltb, eqb}
use lib.ListN.{get_or, drop}
use borrow.Author.Tests.{lt-ltb, le-ltb, ltb-true, eq-eqb, ne_eqb, eqb-true}
use Rattle.laws.specs.Spans.{run, end_of}
use Rattle.laws.proofs.Bools.{by_test, both_true, and_left, and_right, and_no_right}
use Rattle.laws.proofs.Spans.{run_yes, run_no}
use Rattle.laws.proofs.Lists.{first_at}
use Rattle.standard.specs.Bytes.{is, is_digit, first}
use Rattle.standard.specs.Passes.{Item, pass, passes, passes_of, rising}
use Rattle.reader.specs.Pieces.{pieces, separator}
use Rattle.reader.specs.PassesInTurn.{pass_number, single, range, item_of, last_pass}
use Rattle.std.specs.Prelude as code
use Rattle.std.specs.Prelude.{Result, Ok, Err}
use Rattle.std.specs.Result.{result_ok}
use Rattle.text_bytes.specs.declared.Read.{Read}
use Rattle.text_bytes.specs.Options.{option}
use Rattle.text_numbers.specs.declared.NumberError.{NumberError}
use Rattle.text_numbers.specs.Digits.{written}
use Rattle.text_numbers.proofs.Numbers.{option_run}
use Rattle.reader.proofs.Digits.{digits_le}
use Rattle.token_passes.specs.Passes.{pass_for, is_item_byte, item_at, item_read, item_for}
use Rattle.token_passes.proofs.Cuts.{pieces_on, pieces_last, ends_on, ends_here}

-- what is read alike has the same value and the same position after it
pub read_parts : {A : Type 0} (x y : Read A) → code.Some x ≡ code.Some y → (x.value ≡ y.value) × (x.next ≡ y.next)
read_parts x y e = let r : x ≡ y = cc in (ap (λ z. z.value) r, ap (λ z. z.next) r)

-- NUMBERS
-- the digits begin with 0 where the text does
pub zero_first : (t : List ℕ) → is "0" (first (run is_digit t)) ≡ is "0" (first t)
zero_first [] = refl
zero_first (c ∷ s) =
    by_test (is_digit c)
    (λ d. rw (run_yes is_digit c s d))
    (λ d. rw (run_no is_digit c s d) (by_test (eqb c 48) (λ e. absurd (both_true (is_digit c) (rw (eqb-true c 48 e)) d)) (λ e. sym e)))

module _ (line : List ℕ) (at : ℕ) where
  pub zero_leads : get_or line at 0 ≡ 48 → pass_number (run is_digit (drop at line)) ≡ none
  unfolding pass_number
  zero_leads e = rw (zero_first (drop at line) ∙ eq-eqb _ 48 (first_at line at ∙ e))

  module _ (n : get_or line at 0 ≡ 48 → ⊥) (d : Result ℕ NumberError) (e : written 32 (run is_digit (drop at line)) ≡ d) where
    pub number_by : pass_number (run is_digit (drop at line)) ≡ option (result_ok d)
    unfolding pass_number
    number_by =
        let z : is "0" (first (run is_digit (drop at line))) ≡ false = zero_first (drop at line) ∙ ne_eqb _ 48 (λ k. n (sym (first_at line at) ∙ k)) in
        rw z (sym (option_run 32 (drop at line)) ∙ ap (λ x. option (result_ok x)) e)

    pub no_number : ((v : ℕ) → d ≡ Ok v → ⊥) → pass_number (run is_digit (drop at line)) ≡ none
    no_number f = number_by ∙ go d f
      where
        go : (x : Result ℕ NumberError) → ((v : ℕ) → x ≡ Ok v → ⊥) → option (result_ok x) ≡ none
        go (Ok v) k = absurd (k v refl)
        go (Err y) k = refl

-- in the code's type
pub pass_none : (next : ℕ) (o : Option ℕ) → pass_for next o ≡ code.None → o ≡ none
unfolding pass_for
pass_none next none e = refl
pass_none next (some v) e = let z : ◌≡◌ {A = ℕ} 0 1 = cc in absurd (omega arith)

pub pass_some : (next : ℕ) (o : Option ℕ) (v n : ℕ) → pass_for next o ≡ code.Some (record { value = v; next = n }) → (o ≡ some v) × (n ≡ next)
unfolding pass_for
pass_some next none v n e = let z : ◌≡◌ {A = ℕ} 0 1 = cc in absurd (omega arith)
pass_some next (some w) v n e = let r = read_parts _ _ e in (ap some r.0, sym r.1)

-- ITEMS
hyphen_apart : (c : ℕ) → is "-" c ≡ true → is_digit c ≡ false
hyphen_apart c e = rw (eqb-true c 45 e)

single_none : (low : ℕ) (o : Option ℕ) → o ≡ none → single low o ≡ none
unfolding single
single_none low o e = rw e

single_low : (low a : ℕ) (o : Option ℕ) → o ≡ some a → a ≤ low → single low o ≡ none
unfolding single
single_low low a o e h = rw (e, le-ltb low a h)

single_some : (low a : ℕ) (o : Option ℕ) → o ≡ some a → low < a → single low o ≡ some (pass a)
unfolding single
single_some low a o e h = rw (e, lt-ltb low a h)

range_no_first : (low : ℕ) (o u : Option ℕ) → o ≡ none → range low o u ≡ none
unfolding range
range_no_first low o u e = rw e

range_no_second : (low : ℕ) (o u : Option ℕ) → u ≡ none → range low o u ≡ none
unfolding range
range_no_second low none u e = refl
range_no_second low (some a) u e = rw e

range_low : (low a : ℕ) (o u : Option ℕ) → o ≡ some a → a ≤ low → range low o u ≡ none
unfolding range
range_low low a o none e h = rw e
range_low low a o (some b) e h = rw (e, le-ltb low a h)

range_order : (low a b : ℕ) (o u : Option ℕ) → o ≡ some a → u ≡ some b → b ≤ a → range low o u ≡ none
unfolding range
range_order low a b o u e f h = rw (e, f, and_no_right (ltb low a) (ltb a b) (le-ltb a b h))

range_some : (low a b : ℕ) (o u : Option ℕ) → o ≡ some a → u ≡ some b → low < a → a < b → range low o u ≡ some (passes a b)
unfolding range
range_some low a b o u e f h k = rw (e, f, lt-ltb low a h, lt-ltb a b k)

module _ (line : List ℕ) (i low h : ℕ) (k : h ≡ end_of is_digit line i) where
  -- no hyphen behind the first number
  module _ (m : is "-" (get_or line h 0) ≡ false) where
    pub one_piece : pieces (separator (is "-")) 0 (run is_item_byte (drop i line)) ≡ run is_digit (drop i line) ∷ []
    one_piece = pieces_last is_item_byte is_digit (is "-") (λ c. refl) hyphen_apart refl line i h k m

    alone : item_at low line i ≡ single low (pass_number (run is_digit (drop i line)))
    unfolding item_at item_of
    alone = rw one_piece

    pub alone_ends : end_of is_item_byte line i ≡ h
    alone_ends = ends_here is_item_byte is_digit (is "-") (λ c. refl) hyphen_apart refl line i h k m

  -- a hyphen, and a second number up to e
  module _ (m : is "-" (get_or line h 0) ≡ true) (e : ℕ) (j : e ≡ end_of is_digit line (h + 1)) where
    cut_second : pieces (separator (is "-")) 0 (run is_item_byte (drop i line)) ≡ run is_digit (drop i line) ∷ pieces (separator (is "-")) 0 (run is_item_byte (drop (h + 1) line))
    cut_second = pieces_on is_item_byte is_digit (is "-") (λ c. refl) hyphen_apart refl line i h k m

    module _ (n : is "-" (get_or line e 0) ≡ false) where
      pub two_pieces : pieces (separator (is "-")) 0 (run is_item_byte (drop i line)) ≡ run is_digit (drop i line) ∷ run is_digit (drop (h + 1) line) ∷ []
      two_pieces = cut_second ∙ ap (λ l. run is_digit (drop i line) ∷ l) (pieces_last is_item_byte is_digit (is "-") (λ c. refl) hyphen_apart refl line (h + 1) e j n)

      both : item_at low line i ≡ range low (pass_number (run is_digit (drop i line))) (pass_number (run is_digit (drop (h + 1) line)))
      unfolding item_at item_of
      both = rw two_pieces

      pub both_ends : end_of is_item_byte line i ≡ e
      both_ends =
          ends_on is_item_byte is_digit (is "-") (λ c. refl) hyphen_apart refl line i h k m
          ∙ ends_here is_item_byte is_digit (is "-") (λ c. refl) hyphen_apart refl line (h + 1) e j n

    -- a second hyphen, and a third piece
    third_piece : (x : List ℕ) × (xs : List (List ℕ)) × (pieces (separator (is "-")) 0 (run is_item_byte (drop (e + 1) line)) ≡ x ∷ xs)
    third_piece =
        let f = end_of is_digit line (e + 1) in
        by_test (is "-" (get_or line f 0))
        (λ y. (_, _, pieces_on is_item_byte is_digit (is "-") (λ c. refl) hyphen_apart refl line (e + 1) f refl y))
        (λ y. (_, _, pieces_last is_item_byte is_digit (is "-") (λ c. refl) hyphen_apart refl line (e + 1) f refl y))

    pub more_pieces : is "-" (get_or line e 0) ≡ true
        → (x : List ℕ) × (xs : List (List ℕ)) × (pieces (separator (is "-")) 0 (run is_item_byte (drop i line)) ≡ run is_digit (drop i line) ∷ run is_digit (drop (h + 1) line) ∷ x ∷ xs)
    more_pieces n =
        let q = third_piece in
        let cut = pieces_on is_item_byte is_digit (is "-") (λ c. refl) hyphen_apart refl line (h + 1) e j n in
        (q.0, q.1, cut_second ∙ ap (λ l. run is_digit (drop i line) ∷ l) (cut ∙ ap (λ l. run is_digit (drop (h + 1) line) ∷ l) q.2))

    third : is "-" (get_or line e 0) ≡ true → item_at low line i ≡ none
    unfolding item_at item_of
    third n = rw (more_pieces n).2

  -- what holds of a single number and of two holds of the item
  by_form : {o : Option Item} → single low (pass_number (run is_digit (drop i line))) ≡ o
      → ((u : Option ℕ) → range low (pass_number (run is_digit (drop i line))) u ≡ o) → none ≡ o → item_at low line i ≡ o
  by_form s r n =
      by_test (is "-" (get_or line h 0))
      (λ m. let e = end_of is_digit line (h + 1) in
      by_test (is "-" (get_or line e 0)) (λ y. third m e refl y ∙ n) (λ y. both m e refl y ∙ r (pass_number (run is_digit (drop (h + 1) line)))))
      (λ m. alone m ∙ s)

  -- THE ANSWERS
  -- no first number
  pub no_first : (next : ℕ) → pass_number (run is_digit (drop i line)) ≡ none → code.None ≡ item_for next (item_at low line i)
  unfolding item_for
  no_first next a = rw (by_form (single_none low _ a) (λ u. range_no_first low _ u a) refl)

  module _ (from : ℕ) (a : pass_number (run is_digit (drop i line)) ≡ some from) where
    -- it does not rise
    pub low_first : (next : ℕ) → from ≤ low → code.None ≡ item_for next (item_at low line i)
    unfolding item_for
    low_first next l = rw (by_form (single_low low from _ a l) (λ u. range_low low from _ u a l) refl)

    module _ (l : low < from) where
      -- one number
      pub one_pass : (get_or line h 0 ≡ 45 → ⊥) → item_read from from h ≡ item_for (end_of is_item_byte line i) (item_at low line i)
      unfolding item_for
      one_pass n =
          let m : is "-" (get_or line h 0) ≡ false = ne_eqb _ 45 n in
          rw (alone m ∙ single_some low from _ a l, alone_ends m)

      module _ (m : get_or line h 0 ≡ 45) (e : ℕ) (j : e ≡ end_of is_digit line (h + 1)) where
        hyphen : is "-" (get_or line h 0) ≡ true
        hyphen = eq-eqb _ 45 m

        -- no second number
        pub no_second : (next : ℕ) → pass_number (run is_digit (drop (h + 1) line)) ≡ none → code.None ≡ item_for next (item_at low line i)
        unfolding item_for
        no_second next b =
            let q : item_at low line i ≡ none = by_test (is "-" (get_or line e 0)) (λ y. third hyphen e j y) (λ y. both hyphen e j y ∙ range_no_second low _ _ b) in
            rw q

        module _ (to : ℕ) (b : pass_number (run is_digit (drop (h + 1) line)) ≡ some to) where
          -- it does not rise
          pub low_second : (next : ℕ) → to ≤ from → code.None ≡ item_for next (item_at low line i)
          unfolding item_for
          low_second next r =
              let q : item_at low line i ≡ none = by_test (is "-" (get_or line e 0)) (λ y. third hyphen e j y) (λ y. both hyphen e j y ∙ range_order low from to _ _ a b r) in
              rw q

          -- a third number
          pub a_third : (next : ℕ) → get_or line e 0 ≡ 45 → code.None ≡ item_for next (item_at low line i)
          unfolding item_for
          a_third next y = rw (third hyphen e j (eq-eqb _ 45 y))

          -- two numbers
          pub two_passes : from < to → (get_or line e 0 ≡ 45 → ⊥) → item_read from to e ≡ item_for (end_of is_item_byte line i) (item_at low line i)
          unfolding item_for
          two_passes r n =
              let y : is "-" (get_or line e 0) ≡ false = ne_eqb _ 45 n in
              rw (both hyphen e j y ∙ range_some low from to _ _ a b l r, both_ends hyphen e j y)

-- WHAT AN ITEM IS
-- a number is at most 32
number_le : (s : List ℕ) (v : ℕ) → pass_number s ≡ some v → v ≤ 32
unfolding pass_number
number_le s v e =
    by_test (is "0" (first s))
    (λ z. let k : none ≡ some v = rw z at e in let y : ◌≡◌ {A = ℕ} 0 1 = cc in absurd (omega arith))
    (λ z. digits_le 32 s v (rw z at e))

-- above `low`, in order, at most 32
unfoldable Rises : ℕ → Item → Type 0
Rises low (pass a) = (low < a) × (a ≤ 32)
Rises low (passes a b) = (low < a) × (a < b) × (b ≤ 32)

single_rises : (low : ℕ) (o : Option ℕ) (x : Item) → ((v : ℕ) → o ≡ some v → v ≤ 32) → single low o ≡ some x → Rises low x
unfolding single Rises
single_rises low none x f e = let y : ◌≡◌ {A = ℕ} 0 1 = cc in absurd (omega arith)
single_rises low (some a) x f e =
    by_test (ltb low a)
    (λ t. let k : some (pass a) ≡ some x = rw t at e in let q : pass a ≡ x = cc in rw (← q) (ltb-true low a t, f a refl))
    (λ t. let k : none ≡ some x = rw t at e in let y : ◌≡◌ {A = ℕ} 0 1 = cc in absurd (omega arith))

range_rises : (low : ℕ) (o u : Option ℕ) (x : Item) → ((v : ℕ) → u ≡ some v → v ≤ 32) → range low o u ≡ some x → Rises low x
unfolding range Rises
range_rises low none u x f e = let y : ◌≡◌ {A = ℕ} 0 1 = cc in absurd (omega arith)
range_rises low (some a) none x f e = let y : ◌≡◌ {A = ℕ} 0 1 = cc in absurd (omega arith)
range_rises low (some a) (some b) x f e =
    by_test (ltb low a && ltb a b)
    (λ t. let k : some (passes a b) ≡ some x = rw t at e in let q : passes a b ≡ x = cc in
    rw (← q) (ltb-true low a (and_left (ltb low a) (ltb a b) t), ltb-true a b (and_right (ltb low a) (ltb a b) t), f b refl))
    (λ t. let k : none ≡ some x = rw t at e in let y : ◌≡◌ {A = ℕ} 0 1 = cc in absurd (omega arith))

item_rises : (low : ℕ) (ps : List (List ℕ)) (x : Item) → item_of low ps ≡ some x → Rises low x
unfolding item_of
item_rises low [] x e = let y : ◌≡◌ {A = ℕ} 0 1 = cc in absurd (omega arith)
item_rises low (a ∷ []) x e = single_rises low (pass_number a) x (number_le a) e
item_rises low (a ∷ b ∷ []) x e = range_rises low (pass_number a) (pass_number b) x (number_le b) e
item_rises low (a ∷ b ∷ c ∷ s) x e = let y : ◌≡◌ {A = ℕ} 0 1 = cc in absurd (omega arith)

-- an item that was read: its passes run from one number to another
pub record Took (low : ℕ) (o : Option Item) (from to : ℕ) : Type 0 where
  pub item : Item
  pub is_item : o ≡ some item
  pub runs : passes_of item ≡ rising from (suc (to - from))
  pub last : last_pass low o ≡ to
  pub above : low < from
  pub order : from ≤ to
  pub top : to ≤ 32

took_by : (low end : ℕ) (o : Option Item) (from to next : ℕ) → ((x : Item) → o ≡ some x → Rises low x) → item_for end o ≡ item_read from to next → (next ≡ end) × Took low o from to
unfolding item_for Rises last_pass passes_of rising
took_by low end none from to next g e = let y : ◌≡◌ {A = ℕ} 0 1 = cc in absurd (omega arith)
took_by low end (some (pass a)) from to next g e =
    let r = read_parts _ _ e in
    let p : a ≡ from = ap (λ x. x.from) r.0 in
    let q : a ≡ to = ap (λ x. x.to) r.0 in
    let n : next ≡ end = sym r.1 in
    let w = g (pass a) refl in
    let d : to - from ≡ 0 = omega arith in
    (n, record { item = pass a; is_item = refl; runs = rw (d, ← p); last = q; above = omega (arith, w.0); order = omega arith; top = omega (arith, w.1) })
took_by low end (some (passes a b)) from to next g e =
    let r = read_parts _ _ e in
    let p : a ≡ from = ap (λ x. x.from) r.0 in
    let q : b ≡ to = ap (λ x. x.to) r.0 in
    let n : next ≡ end = sym r.1 in
    let w = g (passes a b) refl in
    (n, record { item = passes a b; is_item = refl; runs = rw (p, q); last = q; above = omega (arith, w.0); order = omega (arith, w.1); top = omega (arith, w.2) })

pub took : (low : ℕ) (line : List ℕ) (i end from to next : ℕ) → item_for end (item_at low line i) ≡ item_read from to next → (next ≡ end) × Took low (item_at low line i) from to
unfolding item_at
took low line i end from to next e = took_by low end (item_at low line i) from to next (λ x k. item_rises low (pieces (separator (is "-")) 0 (run is_item_byte (drop i line))) x k) e

pub nothing_none : (end : ℕ) (o : Option Item) → item_for end o ≡ code.None → o ≡ none
unfolding item_for
nothing_none end none e = refl
nothing_none end (some (pass a)) e = let y : ◌≡◌ {A = ℕ} 0 1 = cc in absurd (omega arith)
nothing_none end (some (passes a b)) e = let y : ◌≡◌ {A = ℕ} 0 1 = cc in absurd (omega arith)
