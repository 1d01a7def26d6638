-- SLASHES THAT COUNT (document 02, T-04): music lines with a run of slashes, what the first edition reads and what the second does. The unit is 1/8.
use Prim.Native.Nat.{ℕ}
use Prim.Native.String.{String}
use mathlib.Core.Path.{◌≡◌, refl}
use mathlib.Core.List.{List, [], ◌∷◌, ◌++◌, map}
use lib.ListN.{replicate}
use Rattle.laws.specs.Lists.{concat}
use Rattle.standard.specs.Bytes.{ascii}
use Rattle.editions.specs.declared.Edition.{Edition}
use Rattle.editions.specs.declared.Edition.TheVariants.{First, Second}
use Rattle.reader.specs.State.{Note}
use Rattle.reader.specs.Part.{Part}
use Rattle.reader.specs.Codes.{bit}
use Rattle.reader.specs.Records.{notes_of}
use Rattle.reader.specs.All.{all}
use Rattle.examples.proofs.SecondEdition.{Row, read_in, verdict_of, told}

-- of each note its value, its dots, and 1 if a tie begins on it
abbrev length_of_note : ℕ × Note → List ℕ
length_of_note x = x.1.value ∷ x.1.dots ∷ bit x.1.flags.tie_start 1 ∷ []

abbrev lengths : List Part → List ℕ
lengths ps = concat (map (λ (p : Part). concat (map length_of_note (notes_of p))) ps)

-- the second line of a text: n slashes between a and b
abbrev row : String → ℕ → String → List ℕ → List ℕ → Row (List ℕ)
row a n b x y = record { text = ascii "K:C\n" ++ ascii a ++ replicate n 47 ++ ascii b; first = x; second = y }

abbrev rows : List (Row (List ℕ))
rows =
    -- two and more halve once each; a numerator stays
    row "A" 2 "" (6 ∷ 0 ∷ 0 ∷ []) (7 ∷ 0 ∷ 0 ∷ [])
    ∷ row "A" 3 "" (6 ∷ 0 ∷ 0 ∷ []) (8 ∷ 0 ∷ 0 ∷ [])
    ∷ row "A" 4 "" (6 ∷ 0 ∷ 0 ∷ []) (9 ∷ 0 ∷ 0 ∷ [])
    ∷ row "A3" 2 "" (5 ∷ 1 ∷ 0 ∷ []) (6 ∷ 1 ∷ 0 ∷ [])
    ∷ row "A4294967296" 2 "" (6 ∷ 0 ∷ 0 ∷ []) (7 ∷ 0 ∷ 0 ∷ [])
    ∷ row "^a,3" 2 "B" (5 ∷ 1 ∷ 0 ∷ 5 ∷ 0 ∷ 0 ∷ []) (6 ∷ 1 ∷ 0 ∷ 5 ∷ 0 ∷ 0 ∷ [])
    ∷ row "{A" 2 "}B//" (6 ∷ 0 ∷ 0 ∷ 6 ∷ 0 ∷ 0 ∷ []) (7 ∷ 0 ∷ 0 ∷ 7 ∷ 0 ∷ 0 ∷ [])
    ∷ row "[L:1/4]A" 2 "" (5 ∷ 0 ∷ 0 ∷ []) (6 ∷ 0 ∷ 0 ∷ [])
    ∷ row "A" 2 ">B" (6 ∷ 1 ∷ 0 ∷ 6 ∷ 0 ∷ 0 ∷ []) (7 ∷ 1 ∷ 0 ∷ 6 ∷ 0 ∷ 0 ∷ [])
    -- also behind a chord and a rest; a whole bar has no length
    ∷ row "[CE]" 2 "" (6 ∷ 0 ∷ 0 ∷ []) (7 ∷ 0 ∷ 0 ∷ [])
    ∷ row "z" 2 "" (6 ∷ 0 ∷ 0 ∷ []) (7 ∷ 0 ∷ 0 ∷ [])
    ∷ row "x" 2 "" (6 ∷ 0 ∷ 0 ∷ []) (7 ∷ 0 ∷ 0 ∷ [])
    ∷ row "Z" 2 "" (10 ∷ 0 ∷ 0 ∷ []) (10 ∷ 0 ∷ 0 ∷ [])
    -- digits behind them do not matter; behind a single slash they are the denominator, and all behind these is skipped
    ∷ row "A" 2 "4" (6 ∷ 0 ∷ 0 ∷ []) (7 ∷ 0 ∷ 0 ∷ [])
    ∷ row "A" 2 "0" (6 ∷ 0 ∷ 0 ∷ []) (7 ∷ 0 ∷ 0 ∷ [])
    ∷ row "A" 1 "0" (0 ∷ 3 ∷ 0 ∷ []) (0 ∷ 3 ∷ 0 ∷ [])
    ∷ row "A/4" 2 "" (7 ∷ 0 ∷ 0 ∷ []) (7 ∷ 0 ∷ 0 ∷ [])
    ∷ row "A/2" 40 "" (6 ∷ 0 ∷ 0 ∷ []) (6 ∷ 0 ∷ 0 ∷ [])
    -- a tie stands right behind the length
    ∷ row "A" 2 "-B" (6 ∷ 0 ∷ 0 ∷ 5 ∷ 0 ∷ 0 ∷ []) (7 ∷ 0 ∷ 1 ∷ 5 ∷ 0 ∷ 0 ∷ [])
    ∷ row "A/2" 1 "2-B" (6 ∷ 0 ∷ 0 ∷ 5 ∷ 0 ∷ 0 ∷ []) (6 ∷ 0 ∷ 0 ∷ 5 ∷ 0 ∷ 0 ∷ [])
    ∷ row "A" 2 "3-B" (6 ∷ 0 ∷ 0 ∷ 5 ∷ 0 ∷ 0 ∷ []) (7 ∷ 0 ∷ 0 ∷ 5 ∷ 0 ∷ 0 ∷ [])
    -- up to 31: what is shorter than every value is a plain quarter
    ∷ row "A" 31 "" (6 ∷ 0 ∷ 0 ∷ []) (4 ∷ 0 ∷ 0 ∷ [])
    ∷ row "A4294967295" 30 "" (0 ∷ 3 ∷ 0 ∷ []) (4 ∷ 3 ∷ 0 ∷ [])
    ∷ row "A4294967295" 31 "" (0 ∷ 3 ∷ 0 ∷ []) (5 ∷ 3 ∷ 0 ∷ [])
    -- the 32nd is refused, whether the length counts or not
    ∷ row "A" 32 "" (6 ∷ 0 ∷ 0 ∷ []) (22 ∷ 2 ∷ [])
    ∷ row "A3" 32 "" (5 ∷ 1 ∷ 0 ∷ []) (22 ∷ 2 ∷ [])
    ∷ row "[CE]" 32 "" (6 ∷ 0 ∷ 0 ∷ []) (22 ∷ 2 ∷ [])
    ∷ row "[]" 32 "A" (5 ∷ 0 ∷ 0 ∷ []) (22 ∷ 2 ∷ [])
    ∷ row "z" 32 "" (6 ∷ 0 ∷ 0 ∷ []) (22 ∷ 2 ∷ [])
    ∷ row "x" 32 "" (6 ∷ 0 ∷ 0 ∷ []) (22 ∷ 2 ∷ [])
    ∷ row "Z" 32 "" (10 ∷ 0 ∷ 0 ∷ []) (22 ∷ 2 ∷ [])
    ∷ row "X" 32 "" (10 ∷ 0 ∷ 0 ∷ []) (22 ∷ 2 ∷ [])
    ∷ row "A" 300 "" (6 ∷ 0 ∷ 0 ∷ []) (22 ∷ 2 ∷ [])
    -- "as met in the line"
    ∷ row "A[33B" 32 "" (17 ∷ 2 ∷ []) (17 ∷ 2 ∷ [])
    ∷ row "A" 32 "[33" (17 ∷ 2 ∷ []) (22 ∷ 2 ∷ [])
    -- where no length is read
    ∷ row "\"A" 32 "\"B" (5 ∷ 0 ∷ 0 ∷ []) (5 ∷ 0 ∷ 0 ∷ [])
    ∷ row "[A" 32 "]" (5 ∷ 0 ∷ 0 ∷ []) (5 ∷ 0 ∷ 0 ∷ [])
    ∷ row "" 32 "" [] []
    ∷ row "" 32 "A" (5 ∷ 0 ∷ 0 ∷ []) (5 ∷ 0 ∷ 0 ∷ [])
    ∷ row "A " 32 "" (5 ∷ 0 ∷ 0 ∷ []) (5 ∷ 0 ∷ 0 ∷ [])
    ∷ row "A-" 32 "B" (5 ∷ 0 ∷ 1 ∷ 5 ∷ 0 ∷ 0 ∷ []) (5 ∷ 0 ∷ 1 ∷ 5 ∷ 0 ∷ 0 ∷ [])
    ∷ row "[K:C]" 32 "A" (5 ∷ 0 ∷ 0 ∷ []) (5 ∷ 0 ∷ 0 ∷ [])
    ∷ row "A|[1" 32 "B" (5 ∷ 0 ∷ 0 ∷ 5 ∷ 0 ∷ 0 ∷ []) (5 ∷ 0 ∷ 0 ∷ 5 ∷ 0 ∷ 0 ∷ [])
    ∷ []

pub slashes_read : (ed : Edition) → map (λ (x : Row (List ℕ)). told lengths (verdict_of ed x.text)) rows ≡ map (read_in ed) rows
unfolding all
slashes_read First = refl
slashes_read Second = refl

-- 12 is met before the length: a note with n octave marks, and 32 slashes
abbrev low : ℕ → List ℕ
low n = ascii "K:C\nA" ++ replicate n 44 ++ replicate 32 47

pub octave_before_slashes : (told lengths (verdict_of Second (low 133)) ≡ 12 ∷ 2 ∷ []) × (told lengths (verdict_of Second (low 132)) ≡ 22 ∷ 2 ∷ [])
unfolding all
octave_before_slashes = (refl, refl)
