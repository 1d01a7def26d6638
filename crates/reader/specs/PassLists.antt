-- PASS LISTS (refusals 14, 17 and 18; ABC 2.1, 4.9 and 4.10): "numbers 1 to 32 without leading zero, or a-b with a below b, strictly rising, commas between" (document 01). What is no such list is refused by the first of three tests that fails, each of the whole run: its shape, its range, its rise (T-01).
use Rattle.std.specs.Prelude.{ℕ, suc, Bool, true, false, cond, not, ◌&&◌, ◌||◌, List, [], ◌∷◌, ◌++◌, leb, ltb, eqb, length, take}
use Rattle.std.proofs.Math.Option.{Option, none, some}
use Rattle.laws.specs.Lists.{all, is_nil, count_while}
use Rattle.standard.specs.Bytes.{is, is_digit, first, decimal}
use Rattle.standard.specs.Passes.{Item, pass, passes, passes_of}
use Rattle.reader.specs.Pieces.{pieces, separator}
use Rattle.reader.specs.Token.{volta, refused, Taken, taken}

-- THE SHAPE: "a list of the wrong shape, a leading zero included, keeps 14; a 0 by itself is well shaped"
-- a number: one digit or more, of any value; the first is no 0 unless it is the only one
unfoldable pub is_number : List ℕ → Bool
is_number s = not (is_nil s) && all is_digit s && (not (is "0" (first s)) || eqb (length s) 1)

unfoldable pub list_number : List ℕ → Option ℕ
list_number s = cond (is_number s) (some (decimal 0 s)) none

unfoldable pub one_number : Option ℕ → Option Item
one_number none = none
one_number (some a) = some (pass a)

unfoldable pub two_numbers : Option ℕ → Option ℕ → Option Item
two_numbers none b = none
two_numbers (some a) none = none
two_numbers (some a) (some b) = some (passes a b)

-- an item, cut at its hyphens: a number, or two with one hyphen between
unfoldable pub list_item : List (List ℕ) → Option Item
list_item [] = none
list_item (a ∷ []) = one_number (list_number a)
list_item (a ∷ b ∷ []) = two_numbers (list_number a) (list_number b)
list_item (a ∷ b ∷ c ∷ s) = none

unfoldable pub cons_item : Option Item → Option (List Item) → Option (List Item)
cons_item none is = none
cons_item (some i) none = none
cons_item (some i) (some is) = some (i ∷ is)

-- a list, cut at its commas: items, all of them well shaped
unfoldable pub list_items : List (List ℕ) → Option (List Item)
list_items [] = some []
list_items (x ∷ xs) = cons_item (list_item (pieces (separator (is "-")) 0 x)) (list_items xs)

-- the numbers in the order written, both ends of a range
unfoldable pub numbers_in : List Item → List ℕ
numbers_in [] = []
numbers_in (pass a ∷ is) = a ∷ numbers_in is
numbers_in (passes a b ∷ is) = a ∷ b ∷ numbers_in is

-- THE RANGE: "17 out of 1 to 32"
abbrev pub is_pass : ℕ → Bool
is_pass n = leb 1 n && leb n 32

-- THE RISE: "18 not rising"; each number is above the one before it
unfoldable pub rise_above : ℕ → List ℕ → Bool
rise_above low [] = true
rise_above low (a ∷ ns) = ltb low a && rise_above a ns

unfoldable pub rise : List ℕ → Bool
rise [] = true
rise (a ∷ ns) = rise_above a ns

-- the passes that items name
unfoldable pub passes_in : List Item → List ℕ
passes_in [] = []
passes_in (i ∷ is) = passes_of i ++ passes_in is

-- a list that is read, with its passes; or one that is not, with the number of its refusal
pub data Listed : Type 0 where
  listed : List ℕ → Listed
  faulty : ℕ → Listed

-- "tested in the order 14, 17, 18"
unfoldable pub tested : Option (List Item) → Listed
tested none = faulty 14
tested (some is) =
    elim (all is_pass (numbers_in is)) [
      | false ↦ faulty 17
      | true ↦ elim (rise (numbers_in is)) [ false ↦ faulty 18 | true ↦ listed (passes_in is) ]
    ]

-- "digits, commas and hyphens"
abbrev pub is_pass_byte : ℕ → Bool
is_pass_byte c = is_digit c || is "," c || is "-" c

-- a run of them as a list
abbrev pub list_of : List ℕ → Listed
list_of t = tested (list_items (pieces (separator (is ",")) 0 t))

-- n bytes of s, which stands behind the `[`, are the list
unfoldable pub volta_as : ℕ → List ℕ → Listed → Taken
volta_as n s (faulty k) = taken (refused k) (suc (length s))
volta_as n s (listed ps) = taken (volta ps) (suc n)

-- the ending behind the `[`, or its refusal, "where 14 stood"
unfoldable pub volta_of : List ℕ → Taken
volta_of s = let n = count_while is_pass_byte s in volta_as n s (list_of (take n s))
