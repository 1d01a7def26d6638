-- LENGTHS: fractions of a whole note (ABC 2.1, 4.3), written values with their dots, broken rhythm (4.4).
use Rattle.std.specs.Prelude.{ℕ, suc, ◌+◌, ◌-◌, ◌*◌, ◌^◌, max, min, List, [], ◌∷◌, map}
use Rattle.laws.specs.Lists.{concat}

pub record Fraction : Type 0 where
  pub over : ℕ
  pub under : ℕ

-- 4.3: a note `n/d` is n/d of the unit; a unit is 1/u of a whole note (a unit of 0 counts as 1: document 01)
unfoldable pub length_fraction : ℕ → ℕ → ℕ → Fraction
length_fraction unit num den = record { over = num; under = den * max unit 1 }

-- a written value: 0 longa, 1 breve, 2 whole, down by halves to 9, a 128th; and its dots
pub record Value : Type 0 where
  pub value : ℕ
  pub dots : ℕ

-- what part of a whole note it is: a longa is four whole notes, each value half of the one before, each dot adds half of what was added before
unfoldable pub value_fraction : Value → Fraction
value_fraction w = record { over = 4 * (2 ^ suc w.dots - 1); under = 2 ^ (w.value + w.dots) }

-- the same in 1024ths of a whole note, in which all forty are whole numbers (`ticks_fraction`)
unfoldable pub ticks : Value → ℕ
ticks w = 2 ^ (12 - w.value - w.dots) * (2 ^ suc w.dots - 1)

-- the ten values, the longest first
unfoldable pub ten_values : List ℕ
ten_values = 0 ∷ 1 ∷ 2 ∷ 3 ∷ 4 ∷ 5 ∷ 6 ∷ 7 ∷ 8 ∷ 9 ∷ []

-- a value with three dots down to none
unfoldable pub with_dots : ℕ → List Value
with_dots v =
    record { value = v; dots = 3 } ∷ record { value = v; dots = 2 } ∷ record { value = v; dots = 1 } ∷ record { value = v; dots = 0 } ∷ []

-- the forty written values, the longest first
unfoldable pub forty : List Value
forty = concat (map with_dots ten_values)

-- 4.4: `>` dots the first note, `>>` double dots it. Document 01 and the Rust: dots are added to those written, three at most, however many `>`
unfoldable pub dotted : ℕ → Value → Value
dotted n w = record { value = w.value; dots = min 3 (w.dots + n) }

-- 4.4: `>` halves the second note, `>>` quarters it. Document 01 and the Rust: the written value is halved and its dots stay, and halving stops at the 128th
unfoldable pub halved : ℕ → Value → Value
halved n w = record { value = min 9 (w.value + n); dots = w.dots }
