-- DEFAULT TUPLETS UNDER METERS (ABC 2.1, 4.13; document 02, T-06): in 6/8, 9/8 and 12/8 the tuplets of 5, 7 and 9 go in the time of 3, in all other meters of 2. Each row is read as whole texts.
use Prim.Native.Nat.{ℕ}
use Prim.Native.String.{String}
use mathlib.Core.Path.{◌≡◌, refl}
use mathlib.Core.List.{List, [], ◌∷◌, ◌++◌, map}
use Rattle.laws.specs.Lists.{concat}
use Rattle.standard.specs.Bytes.{ascii}
use Rattle.editions.specs.declared.Edition.{Edition}
use Rattle.editions.specs.declared.Edition.TheVariants.{First, Second}
use Rattle.reader.specs.State.{Note}
use Rattle.reader.specs.Part.{Part}
use Rattle.reader.specs.Records.{notes_of}
use Rattle.reader.specs.All.{all}
use Rattle.examples.proofs.SecondEdition.{verdict_of, told}

-- a meter's text, and the time in which the second edition's tuplets of 5, 7 and 9 go
pub record Row : Type 0 where
  pub meter : String
  pub normal : ℕ

abbrev row : String → ℕ → Row
row m n = record { meter = m; normal = n }

abbrev rows : List Row
rows =
    -- the three of the standard, and others that are called compound or might be
    row "6/8" 3
    ∷ row "9/8" 3
    ∷ row "12/8" 3
    ∷ row "3/4" 2
    ∷ row "3/8" 2
    ∷ row "6/4" 2
    ∷ row "18/8" 2
    ∷ row "15/8" 2
    ∷ row "12/16" 2
    ∷ row "0/0" 2
    -- the numbers as they are read: zeros before them, a plus sign, white space; names; no bottom, or none that can be read; beyond a byte; the two changed about
    ∷ row "06/8" 3
    ∷ row "+6/8" 3
    ∷ row " 12 / +008 " 3
    ∷ row "C" 2
    ∷ row "C|" 2
    ∷ row "6" 2
    ∷ row "9/x" 2
    ∷ row "268/8" 2
    ∷ row "6/264" 2
    ∷ row "8/6" 2
    ∷ []

-- the meter in the header, on an M: line behind another, and inline
abbrev texts : String → List ℕ → List (List ℕ)
texts m music =
    (ascii "M:" ++ ascii m ++ ascii "\nK:C\n" ++ music)
    ∷ (ascii "M:9/8\nK:C\nM:" ++ ascii m ++ ascii "\n" ++ music)
    ∷ (ascii "M:3/4\nK:C\n[M:" ++ ascii m ++ ascii "]" ++ music)
    ∷ []

-- the normal of each note's tuplet
abbrev normals : List Part → List ℕ
normals ps = concat (map (λ (p : Part). map (λ (x : ℕ × Note). x.1.group.normal) (notes_of p)) ps)

abbrev read_under : Edition → List ℕ → Row → List (List ℕ)
read_under ed music r = map (λ (t : List ℕ). told normals (verdict_of ed t)) (texts r.meter music)

abbrev thrice : List ℕ → List (List ℕ)
thrice l = l ∷ l ∷ l ∷ []

-- `(5`, `(7` and `(9`
abbrev decided : Edition → Row → List ℕ
decided First r = 4 ∷ 6 ∷ 8 ∷ []
decided Second r = r.normal ∷ r.normal ∷ r.normal ∷ []

pub meters_read : (ed : Edition) → map (read_under ed (ascii "(5A(7B(9c")) rows ≡ map (λ (r : Row). thrice (decided ed r)) rows
unfolding all
meters_read First = refl
meters_read Second = refl

-- with empty parts, in the second edition
pub empty_read : map (read_under Second (ascii "(5:A(7::B(9::1c")) rows ≡ map (λ (r : Row). thrice (decided Second r)) rows
unfolding all
empty_read = refl

-- all other tuplets, and those with a q that is written, are the same under every meter
abbrev settled : Edition → List ℕ
settled First = 3 ∷ 2 ∷ 3 ∷ 5 ∷ 7 ∷ 9 ∷ 4 ∷ 3 ∷ 9 ∷ []
settled Second = 3 ∷ 2 ∷ 3 ∷ 2 ∷ 3 ∷ 9 ∷ 4 ∷ 3 ∷ 9 ∷ []

pub settled_read : (ed : Edition) → map (read_under ed (ascii "(2A(3A(4A(6A(8A(10A(5:4A(7:3:1A(9:9A")) rows ≡ map (λ (r : Row). thrice (settled ed)) rows
unfolding all
settled_read First = refl
settled_read Second = refl
