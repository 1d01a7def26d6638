-- The thirty key names and their fifths as the two tables of 000 list them, against the line of fifths (ABC 2.1, 3.1.14); and that there are no others.
use Prim.Native.Nat.{ℕ, zero, suc, ◌+◌, ◌-◌}
use Prim.Native.String.{String}
use mathlib.Core.Path.{◌≡◌, refl}
use mathlib.Core.Bool.{Bool, true, false, cond, ◌&&◌}
use mathlib.Core.Option.{Option, none, some}
use mathlib.Core.List.{List, [], ◌∷◌, map}
use lib.Dec.{leb}
use lib.IntN.{ℤ, pos, negsuc, ◌-ℤ◌}
use Rattle.standard.specs.Bytes.{ascii}
use Rattle.standard.specs.Keys.{tonic}
use Rattle.reader.specs.Keys.{named}
use Rattle.reader.specs.All.{all}

pub record Entry : Type 0 where
  pub name : String
  pub fifths : ℤ

abbrev e : String → ℤ → Entry
e n f = record { name = n; fifths = f }

-- −1 is negsuc 0
abbrev majors : List Entry
majors =
    e "Cb" (negsuc 6) ∷ e "Gb" (negsuc 5) ∷ e "Db" (negsuc 4) ∷ e "Ab" (negsuc 3) ∷ e "Eb" (negsuc 2) ∷ e "Bb" (negsuc 1) ∷ e "F" (negsuc 0)
    ∷ e "C" (pos 0) ∷ e "G" (pos 1) ∷ e "D" (pos 2) ∷ e "A" (pos 3) ∷ e "E" (pos 4) ∷ e "B" (pos 5) ∷ e "F#" (pos 6) ∷ e "C#" (pos 7) ∷ []

abbrev minors : List Entry
minors =
    e "Ab" (negsuc 6) ∷ e "Eb" (negsuc 5) ∷ e "Bb" (negsuc 4) ∷ e "F" (negsuc 3) ∷ e "C" (negsuc 2) ∷ e "G" (negsuc 1) ∷ e "D" (negsuc 0)
    ∷ e "A" (pos 0) ∷ e "E" (pos 1) ∷ e "B" (pos 2) ∷ e "F#" (pos 3) ∷ e "C#" (pos 4) ∷ e "G#" (pos 5) ∷ e "D#" (pos 6) ∷ e "A#" (pos 7) ∷ []

-- the number that is kept with 128 added
abbrev meant : ℕ → ℤ
meant n = pos n -ℤ pos 128

pub major_table : map (λ (x : Entry). meant (named false (ascii x.name)).fifths) majors ≡ map (λ (x : Entry). x.fifths) majors
unfolding all
major_table = refl

pub minor_table : map (λ (x : Entry). meant (named true (ascii x.name)).fifths) minors ≡ map (λ (x : Entry). x.fifths) minors
unfolding all
minor_table = refl

-- one for a name in the range of seven flats to seven sharps; d less for the mode
abbrev counts : ℕ → Option ℕ → ℕ
counts d none = 0
counts d (some t) = cond (leb 121 (t - d) && leb (t - d) 135) 1 0

-- how many of the names c, and of the names c d, below 256 there are
abbrev sum_below : ℕ → (ℕ → ℕ) → ℕ
sum_below zero f = 0
sum_below (suc n) f = f n + sum_below n f

abbrev names : ℕ → ℕ
names d = sum_below 256 (λ a. counts d (tonic (a ∷ [])) + sum_below 256 (λ b. counts d (tonic (a ∷ b ∷ []))))

-- fifteen each (a name of three bytes or more, or of none, is no tonic by definition)
pub fifteen_majors : names 0 ≡ 15
unfolding all
fifteen_majors = refl

pub fifteen_minors : names 3 ≡ 15
unfolding all
fifteen_minors = refl
