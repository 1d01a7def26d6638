-- A PASS LIST READ IN TURN (ABC 2.1, 4.9 and 4.10), each item above those before it: document 01's sentence "numbers 1 to 32 without leading zero, or a-b with a below b, strictly rising, commas between" in one walk from the left, which ends at the first fault.
-- So the lists were defined before T-01, and so the code still reads them; PassLists defines them by three tests, and proofs/PassTests has that the same lists are read, with the same passes.
use Rattle.std.specs.Prelude.{ℕ, cond, ◌&&◌, List, [], ◌∷◌, ◌++◌, ltb}
use Rattle.std.proofs.Math.Option.{Option, none, some}
use Rattle.laws.specs.Lists.{all}
use Rattle.standard.specs.Bytes.{is, first, digits}
use Rattle.standard.specs.Passes.{Item, pass, passes, passes_of}
use Rattle.reader.specs.Pieces.{pieces, separator}
use Rattle.reader.specs.PassLists.{Listed, listed, faulty, numbers_in, is_pass}

-- "numbers 1 to 32 without leading zero"
unfoldable pub pass_number : List ℕ → Option ℕ
pass_number s = cond (is "0" (first s)) none (digits 32 s)

-- a pass above `low`
unfoldable pub single : ℕ → Option ℕ → Option Item
single low none = none
single low (some a) = cond (ltb low a) (some (pass a)) none

-- "a-b with a below b", above `low`
unfoldable pub range : ℕ → Option ℕ → Option ℕ → Option Item
range low none b = none
range low (some a) none = none
range low (some a) (some b) = cond (ltb low a && ltb a b) (some (passes a b)) none

-- an item, cut at its hyphens
unfoldable pub item_of : ℕ → List (List ℕ) → Option Item
item_of low [] = none
item_of low (a ∷ []) = single low (pass_number a)
item_of low (a ∷ b ∷ []) = range low (pass_number a) (pass_number b)
item_of low (a ∷ b ∷ c ∷ s) = none

-- the last pass of an item
unfoldable pub last_pass : ℕ → Option Item → ℕ
last_pass low none = low
last_pass low (some (pass a)) = a
last_pass low (some (passes a b)) = b

-- an item's passes before those of the others
unfoldable pub in_turn : Option Item → Option (List ℕ) → Option (List ℕ)
in_turn none qs = none
in_turn (some i) none = none
in_turn (some i) (some qs) = some (passes_of i ++ qs)

-- "strictly rising": the items between commas, each above those before it
unfoldable pub pass_list : ℕ → List (List ℕ) → Option (List ℕ)
pass_list low [] = some []
pass_list low (x ∷ xs) = let i = item_of low (pieces (separator (is "-")) 0 x) in in_turn i (pass_list (last_pass low i) xs)

-- THE REFUSAL of a list that is not read so: 14 by its shape, 17 by its range, else 18
unfoldable pub list_fault : Option (List Item) → ℕ
list_fault none = 14
list_fault (some is) = cond (all is_pass (numbers_in is)) 18 17

-- a list by its passes, if it has been read, else by a refusal
unfoldable pub or_faulty : Option (List ℕ) → ℕ → Listed
or_faulty none k = faulty k
or_faulty (some ps) k = listed ps
