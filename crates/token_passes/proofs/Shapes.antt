-- Numbers, items and lists by their shape, by position.
use Prim.Native.Nat.{ℕ, ◌+◌, ◌≤◌, ◌<◌}
use mathlib.Core.Path.{◌≡◌, refl, sym, ap, ◌∙◌}
use mathlib.Core.Bool.{Bool, true, false, cond, not, ◌&&◌, false≢true}
use mathlib.Core.Option.{Option, none, some}
use mathlib.Core.List.{List, [], ◌∷◌}
use native.Mathlib.Omega.{arith}
use lib.Dec.{leb, eqb}
use lib.ListN.{length, get_or, drop}
use borrow.Author.Tests.{le-leb, eq-eqb, ne_eqb, eqb-true}
use Rattle.laws.specs.Lists.{all, is_nil}
use Rattle.laws.specs.Spans.{run, end_of}
use Rattle.laws.proofs.Bools.{by_test, and_true, and_left, and_assoc}
use Rattle.standard.specs.Bytes.{is, is_digit, first, decimal}
use Rattle.standard.specs.Passes.{Item, pass, passes}
use Rattle.reader.specs.PassLists.{is_number, list_number, one_number, two_numbers, list_item, cons_item, list_items, numbers_in, is_pass, is_pass_byte}
use Rattle.reader.specs.PassesInTurn.{list_fault}
use Rattle.reader.proofs.PassTests.{lead_positive}
use Rattle.std.specs.Prelude as code
use Rattle.std.specs.Prelude.{Result, Ok, Err}
use Rattle.text_bytes.specs.declared.Read.{Read}
use Rattle.text_numbers.specs.declared.NumberError.{NumberError}
use Rattle.text_numbers.specs.declared.NumberError.TheVariants.{Empty, TooLarge}
use Rattle.text_numbers.specs.Digits.{written}
use Rattle.token_passes.specs.Passes.{is_item_byte}
use Rattle.token_passes.specs.Faults.{shape_read, number_shape, list_item_at, item_shape, list_items_at}
use Rattle.token_passes.proofs.Cuts.{pieces_on, pieces_last}
use Rattle.token_passes.proofs.Items.{read_parts, one_piece, alone_ends, two_pieces, both_ends, more_pieces}
use Rattle.token_passes.proofs.Reading.{comma_agree, comma_apart}

-- NUMBERS: t are digits
-- without a leading zero: by what the digits write, up to 32
unfoldable pub by_digits : ℕ → Result ℕ NumberError → code.Option (Read Bool)
by_digits next (Err Empty) = code.None
by_digits next (Ok v) = shape_read true next
by_digits next (Err TooLarge) = shape_read false next

pub plain_number : (next : ℕ) (t : List ℕ) → all is_digit t ≡ true → is "0" (first t) ≡ false → by_digits next (written 32 t) ≡ number_shape next (list_number t)
unfolding by_digits written number_shape list_number is_number
plain_number next [] h z = refl
plain_number next (c ∷ s) h z =
    let p = le-leb 1 _ (lead_positive c s (and_left (is_digit c) (all is_digit s) h) z) in
    rw (h, z) (by_test (leb (decimal 0 (c ∷ s)) 32) (λ q. rw (p, q)) (λ q. rw (p, q)))

-- a 0 by itself, which is no pass
pub lone_zero : (next : ℕ) (t : List ℕ) → is "0" (first t) ≡ true → length t ≤ 1 → shape_read false next ≡ number_shape next (list_number t)
unfolding number_shape list_number is_number decimal
lone_zero next [] z l = absurd (false≢true z)
lone_zero next (c ∷ []) z l = rw (eqb-true c 48 z)
lone_zero next (c ∷ d ∷ s) z l = absurd (omega (arith, l))

-- a leading zero
pub leading_zero : (next : ℕ) (t : List ℕ) → is "0" (first t) ≡ true → 1 < length t → code.None ≡ number_shape next (list_number t)
unfolding number_shape list_number is_number
leading_zero next t z l =
    let n : eqb (length t) 1 ≡ false = ne_eqb (length t) 1 (λ e. omega (arith, e, l)) in
    rw (z, n) (by_test (not (is_nil t) && all is_digit t) (λ h. rw h) (λ h. rw h))

-- in the code's type
pub number_none : (next : ℕ) (o : Option ℕ) → number_shape next o ≡ code.None → o ≡ none
unfolding number_shape
number_none next none e = refl
number_none next (some v) e = let z : ◌≡◌ {A = ℕ} 0 1 = cc in absurd (omega arith)

pub number_some : (next : ℕ) (o : Option ℕ) (r : Bool) (n : ℕ) → number_shape next o ≡ shape_read r n → (v : ℕ) × (o ≡ some v) × (r ≡ is_pass v) × (n ≡ next)
unfolding number_shape
number_some next none r n e = let z : ◌≡◌ {A = ℕ} 0 1 = cc in absurd (omega arith)
number_some next (some v) r n e = let q = read_parts _ _ e in (v, refl, sym q.0, sym q.1)

-- ITEMS
no_second : (o q : Option ℕ) → q ≡ none → two_numbers o q ≡ none
unfolding two_numbers
no_second none q e = refl
no_second (some a) q e = rw e

module _ (line : List ℕ) (i h : ℕ) (k : h ≡ end_of is_digit line i) where
  -- the item by its numbers
  module _ (m : is "-" (get_or line h 0) ≡ false) where
    alone : list_item_at line i ≡ one_number (list_number (run is_digit (drop i line)))
    unfolding list_item_at list_item
    alone = rw (one_piece line i 0 h k m)

  module _ (m : is "-" (get_or line h 0) ≡ true) (e : ℕ) (j : e ≡ end_of is_digit line (h + 1)) where
    both : is "-" (get_or line e 0) ≡ false → list_item_at line i ≡ two_numbers (list_number (run is_digit (drop i line))) (list_number (run is_digit (drop (h + 1) line)))
    unfolding list_item_at list_item
    both n = rw (two_pieces line i 0 h k m e j n)

    third : is "-" (get_or line e 0) ≡ true → list_item_at line i ≡ none
    unfolding list_item_at list_item
    third n = rw (more_pieces line i 0 h k m e j n).2

  -- THE ANSWERS
  pub shaped_not_first : (next : ℕ) → list_number (run is_digit (drop i line)) ≡ none → code.None ≡ item_shape next (list_item_at line i)
  unfolding item_shape one_number two_numbers
  shaped_not_first next a =
      let e = end_of is_digit line (h + 1) in
      let q : list_item_at line i ≡ none =
      by_test (is "-" (get_or line h 0)) (λ m. by_test (is "-" (get_or line e 0)) (λ y. third m e refl y) (λ y. both m e refl y ∙ rw a)) (λ m. alone m ∙ rw a) in
      rw q

  module _ (v : ℕ) (a : list_number (run is_digit (drop i line)) ≡ some v) where
    pub shaped_one : (r : Bool) → r ≡ is_pass v → (get_or line h 0 ≡ 45 → ⊥) → shape_read r h ≡ item_shape (end_of is_item_byte line i) (list_item_at line i)
    unfolding item_shape one_number numbers_in
    shaped_one r p n =
        let m : is "-" (get_or line h 0) ≡ false = ne_eqb _ 45 n in
        rw (alone m, a, alone_ends line i 0 h k m, and_true (is_pass v), p)

    module _ (m : get_or line h 0 ≡ 45) (e : ℕ) (j : e ≡ end_of is_digit line (h + 1)) where
      hyphen : is "-" (get_or line h 0) ≡ true
      hyphen = eq-eqb _ 45 m

      pub shaped_not_second : (next : ℕ) → list_number (run is_digit (drop (h + 1) line)) ≡ none → code.None ≡ item_shape next (list_item_at line i)
      unfolding item_shape
      shaped_not_second next b =
          let q : list_item_at line i ≡ none = by_test (is "-" (get_or line e 0)) (λ y. third hyphen e j y) (λ y. both hyphen e j y ∙ no_second _ _ b) in
          rw q

      pub shaped_no_third : (next : ℕ) → get_or line e 0 ≡ 45 → code.None ≡ item_shape next (list_item_at line i)
      unfolding item_shape
      shaped_no_third next y = rw (third hyphen e j (eq-eqb _ 45 y))

      pub shaped_two : (w : ℕ) → list_number (run is_digit (drop (h + 1) line)) ≡ some w → (r : Bool) → r ≡ (is_pass v && is_pass w) → (get_or line e 0 ≡ 45 → ⊥)
          → shape_read r e ≡ item_shape (end_of is_item_byte line i) (list_item_at line i)
      unfolding item_shape two_numbers numbers_in
      shaped_two w b r p n =
          let y : is "-" (get_or line e 0) ≡ false = ne_eqb _ 45 n in
          rw (both hyphen e j y, a, b, both_ends line i 0 h k hyphen e j y, and_true (is_pass w), p)

-- in the code's type
pub item_none : (next : ℕ) (o : Option Item) → item_shape next o ≡ code.None → o ≡ none
unfolding item_shape
item_none next none e = refl
item_none next (some i) e = let z : ◌≡◌ {A = ℕ} 0 1 = cc in absurd (omega arith)

pub item_some : (next : ℕ) (o : Option Item) (r : Bool) (n : ℕ) → item_shape next o ≡ shape_read r n → (i : Item) × (o ≡ some i) × (r ≡ all is_pass (numbers_in (i ∷ []))) × (n ≡ next)
unfolding item_shape
item_some next none r n e = let z : ◌≡◌ {A = ℕ} 0 1 = cc in absurd (omega arith)
item_some next (some i) r n e = let q = read_parts _ _ e in (i, refl, sym q.0, sym q.1)

-- LISTS
module _ (line : List ℕ) (i e : ℕ) (k : e ≡ end_of is_item_byte line i) where
  list_on : is "," (get_or line e 0) ≡ true → list_items_at line i ≡ cons_item (list_item_at line i) (list_items_at line (e + 1))
  unfolding list_items_at list_item_at list_items
  list_on m = rw (pieces_on is_pass_byte is_item_byte (is ",") comma_agree comma_apart refl line i e k m)

  list_last : is "," (get_or line e 0) ≡ false → list_items_at line i ≡ cons_item (list_item_at line i) (some [])
  unfolding list_items_at list_item_at list_items
  list_last m = rw (pieces_last is_pass_byte is_item_byte (is ",") comma_agree comma_apart refl line i e k m)

  no_list : list_item_at line i ≡ none → list_items_at line i ≡ none
  unfolding cons_item
  no_list n = by_test (is "," (get_or line e 0)) (λ m. list_on m ∙ rw n) (λ m. list_last m ∙ rw n)

-- THE LOOP of `list_fault`
abbrev pub range_or_rise : Bool → ℕ
range_or_rise r = cond r 18 17

-- whether the numbers so far are in range, with the list to come
unfoldable pub fault_with : Bool → Option (List Item) → ℕ
fault_with r none = 14
fault_with r (some is) = range_or_rise (r && all is_pass (numbers_in is))

pub record Faulting (line : List ℕ) (at : ℕ) (r : Bool) (i : ℕ) : Type 0 where
  pub same : fault_with r (list_items_at line i) ≡ list_fault (list_items_at line at)

fault_start : (o : Option (List Item)) → fault_with true o ≡ list_fault o
unfolding fault_with list_fault
fault_start none = refl
fault_start (some is) = refl

pub faulting_start : (line : List ℕ) (at : ℕ) → Faulting line at true at
faulting_start line at = record { same = fault_start (list_items_at line at) }

-- an item in front
item_first : (i : Item) (ts : List Item) → all is_pass (numbers_in (i ∷ ts)) ≡ (all is_pass (numbers_in (i ∷ [])) && all is_pass (numbers_in ts))
unfolding numbers_in
item_first (pass a) ts = rw (and_true (is_pass a))
item_first (passes a b) ts = rw (and_true (is_pass b)) (sym (and_assoc (is_pass a) (is_pass b) (all is_pass (numbers_in ts))))

fault_item : (r : Bool) (i : Item) (o : Option (List Item)) → fault_with r (cons_item (some i) o) ≡ fault_with (r && all is_pass (numbers_in (i ∷ []))) o
unfolding fault_with cons_item
fault_item r i none = refl
fault_item r i (some ts) = ap range_or_rise (ap (λ b. r && b) (item_first i ts) ∙ sym (and_assoc r (all is_pass (numbers_in (i ∷ []))) (all is_pass (numbers_in ts))))

module _ (line : List ℕ) (at : ℕ) (r : Bool) (i : ℕ) (g : Faulting line at r i) where
  pub faulting_none : list_item_at line i ≡ none → 14 ≡ list_fault (list_items_at line at)
  unfolding fault_with
  faulting_none n = sym (ap (fault_with r) (no_list line i (end_of is_item_byte line i) refl n)) ∙ g.same

  module _ (x : Item) (w : list_item_at line i ≡ some x) (next : ℕ) (k : next ≡ end_of is_item_byte line i) (q : Bool) (p : q ≡ (r && all is_pass (numbers_in (x ∷ [])))) where
    -- the last item
    pub faulting_last : (get_or line next 0 ≡ 44 → ⊥) → range_or_rise q ≡ list_fault (list_items_at line at)
    unfolding fault_with numbers_in
    faulting_last n =
        let m : is "," (get_or line next 0) ≡ false = ne_eqb _ 44 n in
        ap range_or_rise (p ∙ sym (and_true (r && all is_pass (numbers_in (x ∷ []))))) ∙ sym (fault_item r x (some [])) ∙ ap (λ o. fault_with r (cons_item o (some []))) (sym w)
        ∙ ap (fault_with r) (sym (list_last line i next k m)) ∙ g.same

    -- another item
    pub faulting_on : get_or line next 0 ≡ 44 → Faulting line at q (next + 1)
    faulting_on n =
        let m : is "," (get_or line next 0) ≡ true = eq-eqb _ 44 n in
        record {
          same =
              ap (λ y. fault_with y (list_items_at line (next + 1))) p ∙ sym (fault_item r x (list_items_at line (next + 1)))
              ∙ ap (λ o. fault_with r (cons_item o (list_items_at line (next + 1)))) (sym w) ∙ ap (fault_with r) (sym (list_on line i next k m)) ∙ g.same;
        }
