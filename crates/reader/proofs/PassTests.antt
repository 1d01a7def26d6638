-- PASS LISTS BY THREE TESTS AND IN TURN (T-01): a list is read in turn just if it is well shaped, in range and rising, and has the same passes; so what is not read in turn is refused by the first of the three tests that fails, and nothing else is.
use Prim.Native.Nat.{ℕ, suc, ◌+◌, ◌*◌, ◌-◌, ◌≤◌}
use mathlib.Core.Path.{◌≡◌, refl, sym, ap, ap₂, ◌∙◌}
use mathlib.Core.Logic.{◌⊎◌, inl, inr}
use mathlib.Core.Bool.{Bool, true, false, cond, ◌&&◌, false≢true}
use mathlib.Core.Option.{Option, none, some}
use mathlib.Core.List.{List, [], ◌∷◌, ◌++◌}
use native.Mathlib.Omega.{arith}
use lib.Dec.{leb, ltb, eqb}
use lib.ListN.{length, take}
use borrow.Author.Tests.{leb-true, leb-false, le-leb, ne_eqb, eqb-true, eqb-false}
use Rattle.laws.specs.Lists.{all, count_while}
use Rattle.laws.proofs.Bools.{by_test, and_left, and_right, and_assoc}
use Rattle.standard.specs.Bytes.{is, is_digit, decimal, digits}
use Rattle.standard.specs.Passes.{Item, pass, passes, passes_of}
use Rattle.reader.specs.Pieces.{pieces, separator}
use Rattle.reader.specs.Token.{Taken, taken, refused}
use Rattle.reader.specs.PassLists.{is_number, list_number, one_number, two_numbers, list_item, cons_item, list_items, numbers_in, is_pass, rise_above, rise, passes_in, Listed, listed, faulty, tested, is_pass_byte, volta_as, volta_of}
use Rattle.reader.proofs.Digits.{digit_low, decimal_grows, digits_by, digits_other}
use Rattle.reader.specs.PassesInTurn.{pass_number, single, range, item_of, last_pass, in_turn, pass_list, list_fault, or_faulty}

-- A NUMBER is read in turn if it is well shaped and in range
abbrev kept : Option ℕ → Option ℕ
kept none = none
kept (some n) = cond (is_pass n) (some n) none

-- without a leading zero it is 1 at least
pub lead_positive : (c : ℕ) (s : List ℕ) → is_digit c ≡ true → is "0" c ≡ false → 1 ≤ decimal 0 (c ∷ s)
unfolding decimal
lead_positive c s d z =
    let ne = eqb-false c 48 z in
    let h = decimal_grows (0 * 10 + (c - 48)) s in
    let big : 1 ≤ c - 48 = by_test (leb 1 (c - 48)) (λ e. leb-true _ _ e) (λ e. absurd (ne (omega (arith, leb-false 1 (c - 48) e, digit_low c d)))) in
    omega arith

digits_kept : (c : ℕ) (s : List ℕ) → is "0" c ≡ false → digits 32 (c ∷ s) ≡ kept (list_number (c ∷ s))
unfolding list_number is_number
digits_kept c s z =
    by_test (is_digit c && all is_digit s)
    (λ h. let p = le-leb 1 _ (lead_positive c s (and_left (is_digit c) (all is_digit s) h) z) in
    rw (h, z) (digits_by 32 (c ∷ s) (omega arith) h ∙ by_test (leb (decimal 0 (c ∷ s)) 32) (λ q. rw (q, p)) (λ q. rw (q, p))))
    (λ h. rw h (digits_other 32 (c ∷ s) h))

-- a leading zero
zero_kept : (c : ℕ) (s : List ℕ) → is "0" c ≡ true → none ≡ kept (list_number (c ∷ s))
unfolding list_number is_number decimal
zero_kept c [] z = rw (eqb-true c 48 z)
zero_kept c (d ∷ s) z =
    let n : eqb (length (c ∷ d ∷ s)) 1 ≡ false = ne_eqb (length (c ∷ d ∷ s)) 1 (λ e. omega (arith, e)) in
    rw (z, n) (by_test (is_digit c && (is_digit d && all is_digit s)) (λ h. rw h) (λ h. rw h))

no_digit : digits 32 [] ≡ kept (list_number [])
unfolding digits list_number is_number
no_digit = refl

number_kept : (s : List ℕ) → pass_number s ≡ kept (list_number s)
unfolding pass_number
number_kept [] = no_digit
number_kept (c ∷ s) = by_test (is "0" c) (λ z. rw z (zero_kept c s z)) (λ z. rw z (digits_kept c s z))

-- AN ITEM is read in turn if its numbers are in range and rise above `low`
abbrev item_by : ℕ → Option Item → Option Item
item_by low none = none
item_by low (some (pass a)) = cond (is_pass a && ltb low a) (some (pass a)) none
item_by low (some (passes a b)) = cond ((is_pass a && is_pass b) && (ltb low a && ltb a b)) (some (passes a b)) none

single_by : (low : ℕ) (o : Option ℕ) → single low (kept o) ≡ item_by low (one_number o)
unfolding single one_number
single_by low none = refl
single_by low (some a) = by_test (is_pass a) (λ h. rw h) (λ h. rw h)

range_by : (low : ℕ) (o q : Option ℕ) → range low (kept o) (kept q) ≡ item_by low (two_numbers o q)
unfolding range two_numbers
range_by low none q = refl
range_by low (some a) none = by_test (is_pass a) (λ h. rw h) (λ h. rw h)
range_by low (some a) (some b) =
    by_test (is_pass a) (λ h. by_test (is_pass b) (λ k. rw (h, k)) (λ k. rw (h, k))) (λ h. rw h)

item_by_lem : (low : ℕ) (ps : List (List ℕ)) → item_of low ps ≡ item_by low (list_item ps)
unfolding item_of list_item
item_by_lem low [] = refl
item_by_lem low (a ∷ []) = ap (single low) (number_kept a) ∙ single_by low (list_number a)
item_by_lem low (a ∷ b ∷ []) = ap₂ (range low) (number_kept a) (number_kept b) ∙ range_by low (list_number a) (list_number b)
item_by_lem low (a ∷ b ∷ c ∷ s) = refl

-- A LIST is read in turn if it is well shaped, its numbers are in range, and they rise above `low`
abbrev list_by : ℕ → Option (List Item) → Option (List ℕ)
list_by low none = none
list_by low (some is) = cond (all is_pass (numbers_in is) && rise_above low (numbers_in is)) (some (passes_in is)) none

turned : (i : Item) (A R : Bool) (ps : List ℕ) → in_turn (some i) (cond (A && R) (some ps) none) ≡ cond (A && R) (some (passes_of i ++ ps)) none
unfolding in_turn
turned i false R ps = refl
turned i true false ps = refl
turned i true true ps = refl

falsy : (x y A R : Bool) → (x && y) ≡ false → ((x && A) && (y && R)) ≡ false
falsy false y A R h = refl
falsy true false false R h = refl
falsy true false true R h = refl
falsy true true A R h = absurd (false≢true (sym h))

turn_by : (low : ℕ) (o : Option Item) (os : Option (List Item)) → in_turn (item_by low o) (list_by (last_pass low (item_by low o)) os) ≡ list_by low (cons_item o os)
unfolding in_turn last_pass cons_item numbers_in rise_above passes_in
turn_by low none os = refl
turn_by low (some (pass a)) none = by_test (is_pass a && ltb low a) (λ h. rw h) (λ h. rw h)
turn_by low (some (passes a b)) none = by_test ((is_pass a && is_pass b) && (ltb low a && ltb a b)) (λ h. rw h) (λ h. rw h)
turn_by low (some (pass a)) (some ts) =
    by_test (is_pass a && ltb low a)
    (λ h. let p = and_left (is_pass a) (ltb low a) h in
    let q = and_right (is_pass a) (ltb low a) h in
    rw (p, q) (turned (pass a) (all is_pass (numbers_in ts)) (rise_above a (numbers_in ts)) (passes_in ts)))
    (λ h. rw (h, falsy (is_pass a) (ltb low a) (all is_pass (numbers_in ts)) (rise_above a (numbers_in ts)) h))
turn_by low (some (passes a b)) (some ts) =
    let A = all is_pass (numbers_in ts) in
    let R = rise_above b (numbers_in ts) in
    let e : ((is_pass a && (is_pass b && A)) && (ltb low a && (ltb a b && R))) ≡ (((is_pass a && is_pass b) && A) && ((ltb low a && ltb a b) && R)) =
    sym (ap₂ ◌&&◌ (and_assoc (is_pass a) (is_pass b) A) (and_assoc (ltb low a) (ltb a b) R)) in
    by_test ((is_pass a && is_pass b) && (ltb low a && ltb a b))
    (λ h. let p = and_left (is_pass a && is_pass b) (ltb low a && ltb a b) h in
    let q = and_right (is_pass a && is_pass b) (ltb low a && ltb a b) h in
    rw (e, p, q) (turned (passes a b) A R (passes_in ts)))
    (λ h. rw (h, e, falsy (is_pass a && is_pass b) (ltb low a && ltb a b) A R h))

list_by_lem : (low : ℕ) (xs : List (List ℕ)) → pass_list low xs ≡ list_by low (list_items xs)
unfolding pass_list list_items numbers_in rise_above passes_in
list_by_lem low [] = refl
list_by_lem low (x ∷ xs) =
    let i = item_of low (pieces (separator (is "-")) 0 x) in
    let e : i ≡ item_by low (list_item (pieces (separator (is "-")) 0 x)) = item_by_lem low (pieces (separator (is "-")) 0 x) in
    ap₂ in_turn e (list_by_lem (last_pass low i) xs ∙ ap (λ o. list_by (last_pass low o) (list_items xs)) e) ∙ turn_by low (list_item (pieces (separator (is "-")) 0 x)) (list_items xs)

-- numbers in range rise above 0 if they rise
rise_above_lem : (ns : List ℕ) → all is_pass ns ≡ true → rise_above 0 ns ≡ rise ns
unfolding rise_above rise
rise_above_lem [] h = refl
rise_above_lem (a ∷ ns) h = rw (le-leb 1 a (leb-true 1 a (and_left (leb 1 a) (leb a 32) (and_left (is_pass a) (all is_pass ns) h))))

-- THE LAW: the three tests answer what reading in turn answers, with the refusal of the first test that fails
by_tests : (os : Option (List Item)) → tested os ≡ or_faulty (list_by 0 os) (list_fault os)
unfolding tested or_faulty list_fault
by_tests none = refl
by_tests (some ts) =
    by_test (all is_pass (numbers_in ts))
    (λ h. by_test (rise (numbers_in ts)) (λ k. rw (h, rise_above_lem (numbers_in ts) h, k, tested)) (λ k. rw (h, rise_above_lem (numbers_in ts) h, k, tested)))
    (λ h. rw (h, tested))

pub tests_in_turn : (xs : List (List ℕ)) → tested (list_items xs) ≡ or_faulty (pass_list 0 xs) (list_fault (list_items xs))
tests_in_turn xs = by_tests (list_items xs) ∙ ap (λ o. or_faulty o (list_fault (list_items xs))) (sym (list_by_lem 0 xs))

-- NOTHING ELSE MOVES: with any of the three refusals put as 14 a list is what it was before T-01
abbrev pub as14 : Listed → Listed
as14 (listed ps) = listed ps
as14 (faulty k) = faulty 14

or_14 : (o : Option (List ℕ)) (k : ℕ) → as14 (or_faulty o k) ≡ or_faulty o 14
unfolding or_faulty
or_14 none k = refl
or_14 (some ps) k = refl

pub lists_stay : (xs : List (List ℕ)) → as14 (tested (list_items xs)) ≡ or_faulty (pass_list 0 xs) 14
lists_stay xs = ap as14 (tests_in_turn xs) ∙ or_14 (pass_list 0 xs) (list_fault (list_items xs))

-- a list that was read is read, with the same passes
pub still_read : (xs : List (List ℕ)) (ps : List ℕ) → pass_list 0 xs ≡ some ps → tested (list_items xs) ≡ listed ps
unfolding or_faulty
still_read xs ps e = tests_in_turn xs ∙ ap (λ o. or_faulty o (list_fault (list_items xs))) e

-- a list that was refused is refused, with 14, 17 or 18
three_faults : (os : Option (List Item)) → (list_fault os ≡ 14) ⊎ ((list_fault os ≡ 17) ⊎ (list_fault os ≡ 18))
unfolding list_fault
three_faults none = inl refl
three_faults (some ts) = by_test (all is_pass (numbers_in ts)) (λ h. inr (inr (rw h))) (λ h. inr (inl (rw h)))

pub still_refused : (xs : List (List ℕ)) → pass_list 0 xs ≡ none → (k : ℕ) × ((tested (list_items xs) ≡ faulty k) × ((k ≡ 14) ⊎ ((k ≡ 17) ⊎ (k ≡ 18))))
unfolding or_faulty
still_refused xs e =
    (list_fault (list_items xs), (tests_in_turn xs ∙ ap (λ o. or_faulty o (list_fault (list_items xs))) e, three_faults (list_items xs)))

-- THE TOKEN: an ending is read as it was; or it was refused with 14 and is refused with 17 or 18, and takes the rest of the line as it did
abbrev pub volta_in_turn : List ℕ → Taken
volta_in_turn s = let n = count_while is_pass_byte s in volta_as n s (or_faulty (pass_list 0 (pieces (separator (is ",")) 0 (take n s))) 14)

abbrev pub Refused : List ℕ → ℕ → Taken → Type 0
Refused s k t = t ≡ taken (refused k) (suc (length s))

module _ (n : ℕ) (s : List ℕ) where
  ending_stays : (o : Option (List ℕ)) (k : ℕ) → (k ≡ 14) ⊎ ((k ≡ 17) ⊎ (k ≡ 18))
      → (volta_as n s (or_faulty o k) ≡ volta_as n s (or_faulty o 14)) ⊎ (Refused s 14 (volta_as n s (or_faulty o 14)) × (Refused s 17 (volta_as n s (or_faulty o k)) ⊎ Refused s 18 (volta_as n s (or_faulty o k))))
  unfolding or_faulty volta_as
  ending_stays (some ps) k h = inl refl
  ending_stays none k (inl e) = inl (rw e)
  ending_stays none k (inr (inl e)) = inr (refl, inl (rw e))
  ending_stays none k (inr (inr e)) = inr (refl, inr (rw e))

pub endings_stay : (s : List ℕ) → (volta_of s ≡ volta_in_turn s) ⊎ (Refused s 14 (volta_in_turn s) × (Refused s 17 (volta_of s) ⊎ Refused s 18 (volta_of s)))
unfolding volta_of
endings_stay s =
    let n = count_while is_pass_byte s in
    let xs = pieces (separator (is ",")) 0 (take n s) in
    rw (tests_in_turn xs) (ending_stays n s (pass_list 0 xs) (list_fault (list_items xs)) (three_faults (list_items xs)))
