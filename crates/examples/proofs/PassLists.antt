-- PASS LISTS AND THEIR REFUSALS (T-01): each list between `[` and a note, in the second line of a tune; a refusal's number is that of the first test that the whole list fails.
use Prim.Native.Nat.{ℕ}
use mathlib.Core.Path.{◌≡◌, refl}
use mathlib.Core.List.{List, [], ◌∷◌, ◌++◌, map}
use Rattle.standard.specs.Bytes.{ascii}
use Rattle.reader.specs.PassLists.{volta_of}
use Rattle.reader.specs.Token.{taken, volta}
use Rattle.reader.specs.All.{all}
use Rattle.examples.specs.Shown.{answered}

-- "K:C", then the list and a note
abbrev with_note_lem : List ℕ → List ℕ
with_note_lem l = ascii "K:C\n" ++ (l ++ ascii "A")

abbrev all_refused : ℕ → List (List ℕ) → List (List ℕ)
all_refused n ls = map (λ l. 0 ∷ n ∷ 2 ∷ []) ls

-- "a list of the wrong shape, a leading zero included, keeps 14", whatever its numbers are
abbrev pub misshapen : List (List ℕ)
misshapen =
    ascii "[0,1-"
    ∷ ascii "[00"
    ∷ ascii "[01"
    ∷ ascii "[1,"
    ∷ ascii "[1-"
    ∷ ascii "[1--2"
    ∷ ascii "[1,,2"
    ∷ ascii "[1-2-3"
    ∷ ascii "[33,01"
    ∷ ascii "[0-"
    ∷ ascii "[1-02"
    ∷ ascii "[1,2-"
    ∷ ascii "[1,-2"
    ∷ ascii "[10,020" ∷ []

pub refused_by_shape : map (λ l. answered (with_note_lem l) 1000) misshapen ≡ all_refused 14 misshapen
unfolding all
refused_by_shape = refl

-- "a 0 by itself is well shaped"; "a well-shaped list with a number 0 or above 32", rising or not
abbrev pub out_of_range : List (List ℕ)
out_of_range =
    ascii "[3-1,40"
    ∷ ascii "[99999999999999999999999"
    ∷ ascii "[1-0"
    ∷ ascii "[0"
    ∷ ascii "[33"
    ∷ ascii "[40,3-1"
    ∷ ascii "[0-3"
    ∷ ascii "[1,0"
    ∷ ascii "[2,1,33"
    ∷ ascii "[0,0"
    ∷ ascii "[33-40"
    ∷ ascii "[32-33"
    ∷ ascii "[4294967297" ∷ []

pub refused_by_range : map (λ l. answered (with_note_lem l) 1000) out_of_range ≡ all_refused 17 out_of_range
unfolding all
refused_by_range = refl

-- "one whose numbers don't rise, 3-1 among them"
abbrev pub not_rising : List (List ℕ)
not_rising =
    ascii "[2-2"
    ∷ ascii "[1-3,3"
    ∷ ascii "[2,1"
    ∷ ascii "[1,1"
    ∷ ascii "[3-1"
    ∷ ascii "[32,1"
    ∷ ascii "[1-4,2-3"
    ∷ ascii "[1,2,2"
    ∷ ascii "[10-9" ∷ []

pub refused_by_rise : map (λ l. answered (with_note_lem l) 1000) not_rising ≡ all_refused 18 not_rising
unfolding all
refused_by_rise = refl

-- the first list of a line that is refused
pub first_of_two : answered (ascii "K:C\n[3-1A[01") 1000 ≡ 0 ∷ 18 ∷ 2 ∷ []
unfolding all
first_of_two = refl

-- lists that are read, with their passes and the bytes that they take with the `[`
pub lists_read : map (λ l. volta_of (l ++ ascii "A")) (ascii "1" ∷ ascii "32" ∷ ascii "1,2" ∷ ascii "1-3,4" ∷ ascii "1,3-5,7" ∷ ascii "10" ∷ ascii "9,10-12,32" ∷ [])
    ≡ taken (volta (1 ∷ [])) 2
    ∷ taken (volta (32 ∷ [])) 3
    ∷ taken (volta (1 ∷ 2 ∷ [])) 4
    ∷ taken (volta (1 ∷ 2 ∷ 3 ∷ 4 ∷ [])) 6
    ∷ taken (volta (1 ∷ 3 ∷ 4 ∷ 5 ∷ 7 ∷ [])) 8
    ∷ taken (volta (10 ∷ [])) 3
    ∷ taken (volta (9 ∷ 10 ∷ 11 ∷ 12 ∷ 32 ∷ [])) 11 ∷ []
unfolding all
lists_read = refl
