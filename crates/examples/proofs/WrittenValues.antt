-- LENGTHS AND THEIR WRITTEN VALUES (document 01, "Length"; document 02, T-05), each line read as a whole text. Both editions read them alike.
use Prim.Native.Nat.{ℕ}
use Prim.Native.String.{String}
use mathlib.Core.Path.{◌≡◌, refl}
use mathlib.Core.List.{List, [], ◌∷◌, ◌++◌, map}
use Rattle.laws.specs.Lists.{concat}
use Rattle.standard.specs.Bytes.{ascii}
use Rattle.editions.specs.declared.Edition.{Edition}
use Rattle.editions.specs.declared.Edition.TheVariants.{First, Second}
use Rattle.reader.specs.State.{Note}
use Rattle.reader.specs.Part.{Part}
use Rattle.reader.specs.Records.{notes_of}
use Rattle.reader.specs.All.{all}
use Rattle.examples.proofs.SecondEdition.{verdict_of, told}

-- a unit, a music line, and of each of its notes the value and the dots
pub record Line : Type 0 where
  pub unit : String
  pub music : String
  pub values : List ℕ

abbrev row : String → String → List ℕ → Line
row u m v = record { unit = u; music = m; values = v }

abbrev text_of : Line → List ℕ
text_of r = ascii "L:" ++ ascii r.unit ++ ascii "\nK:C\n" ++ ascii r.music

abbrev values : List Part → List ℕ
values ps = concat (map (λ (p : Part). concat (map (λ (x : ℕ × Note). x.1.value ∷ x.1.dots ∷ []) (notes_of p))) ps)

abbrev rows : List Line
rows =
    -- each of the forty gets itself: the values from the longa to the 128th, each with no dot, one, two and three
    row "1/8" "A32A48A56A60" (0 ∷ 0 ∷ 0 ∷ 1 ∷ 0 ∷ 2 ∷ 0 ∷ 3 ∷ [])
    ∷ row "1/8" "A16A24A28A30" (1 ∷ 0 ∷ 1 ∷ 1 ∷ 1 ∷ 2 ∷ 1 ∷ 3 ∷ [])
    ∷ row "1/8" "A8A12A14A15" (2 ∷ 0 ∷ 2 ∷ 1 ∷ 2 ∷ 2 ∷ 2 ∷ 3 ∷ [])
    ∷ row "1/8" "A4A6A7A15/" (3 ∷ 0 ∷ 3 ∷ 1 ∷ 3 ∷ 2 ∷ 3 ∷ 3 ∷ [])
    ∷ row "1/8" "A2A3A7/A15/4" (4 ∷ 0 ∷ 4 ∷ 1 ∷ 4 ∷ 2 ∷ 4 ∷ 3 ∷ [])
    ∷ row "1/8" "AA3/A7/4A15/8" (5 ∷ 0 ∷ 5 ∷ 1 ∷ 5 ∷ 2 ∷ 5 ∷ 3 ∷ [])
    ∷ row "1/8" "A/A3/4A7/8A15/16" (6 ∷ 0 ∷ 6 ∷ 1 ∷ 6 ∷ 2 ∷ 6 ∷ 3 ∷ [])
    ∷ row "1/8" "A/4A3/8A7/16A15/32" (7 ∷ 0 ∷ 7 ∷ 1 ∷ 7 ∷ 2 ∷ 7 ∷ 3 ∷ [])
    ∷ row "1/8" "A/8A3/16A7/32A15/64" (8 ∷ 0 ∷ 8 ∷ 1 ∷ 8 ∷ 2 ∷ 8 ∷ 3 ∷ [])
    ∷ row "1/8" "A/16A3/32A7/64A15/128" (9 ∷ 0 ∷ 9 ∷ 1 ∷ 9 ∷ 2 ∷ 9 ∷ 3 ∷ [])
    -- no length and no parts: 0/0, 0, a denominator 0
    ∷ row "1/8" "A0/0A0A0/5A/0A9/0" (0 ∷ 0 ∷ 4 ∷ 0 ∷ 4 ∷ 0 ∷ 0 ∷ 3 ∷ 0 ∷ 3 ∷ [])
    ∷ row "1/0" "A0/0A0A/0A" (0 ∷ 0 ∷ 4 ∷ 0 ∷ 0 ∷ 3 ∷ 2 ∷ 0 ∷ [])
    -- between two values the shorter, whichever of them is tried first: A9 is a whole, though a half fits too
    ∷ row "1/8" "A5A9A11A13A17A31" (3 ∷ 0 ∷ 2 ∷ 0 ∷ 2 ∷ 0 ∷ 2 ∷ 1 ∷ 1 ∷ 0 ∷ 1 ∷ 3 ∷ [])
    ∷ row "1/8" "A5/3A2/3A/3A/5A/9A/15" (5 ∷ 1 ∷ 6 ∷ 0 ∷ 7 ∷ 0 ∷ 8 ∷ 1 ∷ 9 ∷ 2 ∷ 9 ∷ 0 ∷ [])
    -- above the greatest and below the least
    ∷ row "1/8" "A59A60A61A4294967295" (0 ∷ 2 ∷ 0 ∷ 3 ∷ 0 ∷ 3 ∷ 0 ∷ 3 ∷ [])
    ∷ row "1/8" "A/16A/17A/32A15/241" (9 ∷ 0 ∷ 4 ∷ 0 ∷ 4 ∷ 0 ∷ 4 ∷ 0 ∷ [])
    -- other units
    ∷ row "1/1" "AA3A/4A4A9A/129" (2 ∷ 0 ∷ 1 ∷ 1 ∷ 4 ∷ 0 ∷ 0 ∷ 0 ∷ 0 ∷ 3 ∷ 4 ∷ 0 ∷ [])
    ∷ row "1/64" "AA7A9/2A512A/2A/3" (8 ∷ 0 ∷ 6 ∷ 2 ∷ 6 ∷ 0 ∷ 0 ∷ 3 ∷ 9 ∷ 0 ∷ 4 ∷ 0 ∷ [])
    ∷ []

pub values_read : (ed : Edition) → map (λ (r : Line). told values (verdict_of ed (text_of r))) rows ≡ map (λ (r : Line). r.values) rows
unfolding all
values_read First = refl
values_read Second = refl
