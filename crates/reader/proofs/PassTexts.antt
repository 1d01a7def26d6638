-- LISTS OF PASSES (ABC 2.1, 4.10) of any length: `[` and a list that is written as the standard says, within document 01's limits, is read as its passes.
use Prim.Native.Nat.{ℕ, suc, ◌≤◌, ◌<◌}
use mathlib.Core.Path.{◌≡◌, refl, ap, ◌∙◌}
use mathlib.Core.Bool.{Bool, true, false, not, ◌&&◌, ◌||◌}
use mathlib.Core.Option.{some}
use mathlib.Core.List.{List, [], ◌∷◌, ◌++◌}
use native.Mathlib.Omega.{arith}
use lib.ListN.{length}
use lib.Seq.{take-append_seam}
use borrow.Author.Tests.{lt-ltb}
use Rattle.laws.specs.Lists.{All, all, count_while}
use Rattle.laws.proofs.Bools.{and_left, and_right, and_both, or_left}
use Rattle.standard.specs.Bytes.{is, is_digit, first}
use Rattle.standard.specs.Passes.{pass, passes, passes_of}
use Rattle.standard.specs.Texts.{Number, commaed, PassesText, ended, number, range}
use Rattle.reader.specs.Token.{taken, volta}
use Rattle.reader.specs.Pieces.{pieces, separator}
use Rattle.reader.specs.PassLists.{is_pass_byte, volta_as, volta_of}
use Rattle.reader.specs.PassesInTurn as lists
use Rattle.reader.specs.PassesInTurn.{pass_number, item_of, last_pass, in_turn, pass_list}
use Rattle.reader.proofs.Digits.{digit_not, count_while_front, digits_some, pieces_digits, pieces_two}
use Rattle.reader.proofs.PassTests.{still_read}
use Rattle.reader.proofs.MoreStandard.{list_meets, pieces_one, pieces_first}

-- a number
number_meets : (d : List ℕ) (n : ℕ) → Number d n → is "0" (first d) ≡ false → n ≤ 32 → pass_number d ≡ some n
unfolding pass_number
number_meets d n x z h = rw z (digits_some 32 d x.some_digit x.all_digits (omega (arith, h, x.says)) ∙ ap some x.says)

-- a range above those before it, and then the rest
range_next : (low n m : ℕ) (d e : List ℕ) (xs : List (List ℕ)) (qs : List ℕ) → Number d n → Number e m → is "0" (first d) ≡ false → is "0" (first e) ≡ false → low < n → n < m → m ≤ 32 → pass_list m xs ≡ some qs
    → pass_list low ((d ++ (45 ∷ e)) ∷ xs) ≡ some (passes_of (passes n m) ++ qs)
unfolding pass_list item_of lists.range last_pass in_turn
range_next low n m d e xs qs x y zd ze l k h r = rw (item, pass_list) (rw r)
  where
    item : item_of low (pieces (separator (is "-")) 0 (d ++ (45 ∷ e))) ≡ some (passes n m)
    item =
        rw (pieces_two 45 refl d e x.all_digits, pieces_digits 45 refl e y.all_digits, number_meets d n x zd (omega arith), number_meets e m y ze h, lt-ltb low n l, lt-ltb n m k)

number_next : (low n : ℕ) (d : List ℕ) (xs : List (List ℕ)) (qs : List ℕ) → Number d n → is "0" (first d) ≡ false → low < n → n ≤ 32 → pass_list n xs ≡ some qs → pass_list low (d ∷ xs) ≡ some (passes_of (pass n) ++ qs)
number_next low n d xs qs x z l h r =
    list_meets low d xs qs x.some_digit x.all_digits z (omega (arith, l, x.says)) (omega (arith, h, x.says)) (ap (λ (k : ℕ). pass_list k xs) x.says ∙ r)
    ∙ ap (λ (k : ℕ). some (passes_of (pass k) ++ qs)) x.says

pub passes_meet : (low : ℕ) (xs : List (List ℕ)) (qs : List ℕ) → PassesText low xs qs → pass_list low xs ≡ some qs
unfolding pass_list
passes_meet low xs qs ended = refl
passes_meet low xs qs (number {xs = ys} {qs = rs} x v z l h q) = number_next low _ x ys rs v z l h (passes_meet _ ys rs q)
passes_meet low xs qs (range {xs = ys} {qs = rs} x d e w v y zd ze l k h q) =
    ap (λ (t : List ℕ). pass_list low (t ∷ ys)) w ∙ range_next low _ _ d e ys rs v y zd ze l k h (passes_meet _ ys rs q)

-- the bytes of an item: digits and hyphens, no comma
abbrev is_item_byte : ℕ → Bool
is_item_byte c = is_pass_byte c && not (is "," c)

digit_item : (c : ℕ) → is_digit c ≡ true → is_item_byte c ≡ true
digit_item c h = and_both (is_pass_byte c) (not (is "," c)) (or_left (is_digit c || is "," c) (is "-" c) (or_left (is_digit c) (is "," c) h)) (ap not (digit_not c 44 h refl))

digits_item : (d t : List ℕ) → all is_digit d ≡ true → all is_item_byte t ≡ true → all is_item_byte (d ++ t) ≡ true
digits_item [] t h k = k
digits_item (c ∷ d) t h k = and_both (is_item_byte c) (all is_item_byte (d ++ t)) (digit_item c (and_left (is_digit c) (all is_digit d) h)) (digits_item d t (and_right (is_digit c) (all is_digit d) h) k)

digits_only : (d : List ℕ) → all is_digit d ≡ true → all is_item_byte d ≡ true
digits_only [] h = refl
digits_only (c ∷ d) h = and_both (is_item_byte c) (all is_item_byte d) (digit_item c (and_left (is_digit c) (all is_digit d) h)) (digits_only d (and_right (is_digit c) (all is_digit d) h))

items_plain : (low : ℕ) (xs : List (List ℕ)) (qs : List ℕ) → PassesText low xs qs → All (λ x. all is_item_byte x ≡ true) xs
items_plain low xs qs ended = tt
items_plain low xs qs (number {xs = ys} {qs = rs} x v z l h q) = (digits_only x v.all_digits, items_plain _ ys rs q)
items_plain low xs qs (range {xs = ys} {qs = rs} x d e w v y zd ze l k h q) =
    (ap (all is_item_byte) w ∙ digits_item d (45 ∷ e) v.all_digits (digits_only e y.all_digits), items_plain _ ys rs q)

no_comma : (x : List ℕ) → all is_item_byte x ≡ true → all (λ c. not (is "," c)) x ≡ true
no_comma [] h = refl
no_comma (c ∷ x) h =
    and_both (not (is "," c)) (all (λ c. not (is "," c)) x) (and_right (is_pass_byte c) (not (is "," c)) (and_left (is_item_byte c) (all is_item_byte x) h)) (no_comma x (and_right (is_item_byte c) (all is_item_byte x) h))

pass_bytes : (x t : List ℕ) → all is_item_byte x ≡ true → all is_pass_byte t ≡ true → all is_pass_byte (x ++ t) ≡ true
pass_bytes [] t h k = k
pass_bytes (c ∷ x) t h k =
    and_both (is_pass_byte c) (all is_pass_byte (x ++ t)) (and_left (is_pass_byte c) (not (is "," c)) (and_left (is_item_byte c) (all is_item_byte x) h)) (pass_bytes x t (and_right (is_item_byte c) (all is_item_byte x) h) k)

only_passes : (x : List ℕ) → all is_item_byte x ≡ true → all is_pass_byte x ≡ true
only_passes [] h = refl
only_passes (c ∷ x) h =
    and_both (is_pass_byte c) (all is_pass_byte x) (and_left (is_pass_byte c) (not (is "," c)) (and_left (is_item_byte c) (all is_item_byte x) h)) (only_passes x (and_right (is_item_byte c) (all is_item_byte x) h))

commaed_bytes : (xs : List (List ℕ)) (x : List ℕ) → All (λ x. all is_item_byte x ≡ true) (x ∷ xs) → all is_pass_byte (commaed (x ∷ xs)) ≡ true
unfolding commaed
commaed_bytes [] x h = only_passes x h.0
commaed_bytes (y ∷ xs) x h = pass_bytes x (44 ∷ commaed (y ∷ xs)) h.0 (commaed_bytes xs y h.1)

commaed_pieces : (xs : List (List ℕ)) (x : List ℕ) → All (λ x. all is_item_byte x ≡ true) (x ∷ xs) → pieces (separator (is ",")) 0 (commaed (x ∷ xs)) ≡ x ∷ xs
unfolding commaed
commaed_pieces [] x h = pieces_one (is ",") x (no_comma x h.0)
commaed_pieces (y ∷ xs) x h = pieces_first (is ",") x 44 (commaed (y ∷ xs)) (no_comma x h.0) refl ∙ ap (λ (l : List (List ℕ)). x ∷ l) (commaed_pieces xs y h.1)

-- behind the `[`, before what is no digit, comma or hyphen
pub ending_text_meets : (x : List ℕ) (xs : List (List ℕ)) (qs s : List ℕ) → PassesText 0 (x ∷ xs) qs → count_while is_pass_byte s ≡ 0 → volta_of (commaed (x ∷ xs) ++ s) ≡ taken (volta qs) (suc (length (commaed (x ∷ xs))))
unfolding volta_of volta_as
ending_text_meets x xs qs s q z =
    let t : List ℕ = commaed (x ∷ xs) in
    let h = items_plain 0 (x ∷ xs) qs q in
    rw (count_while_front is_pass_byte t s (commaed_bytes xs x h) z, take-append_seam t s, commaed_pieces xs x h, still_read (x ∷ xs) qs (passes_meet 0 (x ∷ xs) qs q))
