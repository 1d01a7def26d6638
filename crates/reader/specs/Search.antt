-- THE SEARCH for the written value of a length through the forty in an order, and the order in which the reader tries them (document 02, T-05). What it answers is
-- `written_as`, in whatever order (`any_order`), but for 0/0.
use Rattle.std.specs.Prelude.{ℕ, zero, suc, ◌+◌, ◌-◌, ◌*◌, Bool, true, false, cond, ◌&&◌, ◌||◌, List, [], ◌∷◌, map, leb, ltb, eqb}
use Rattle.std.proofs.Math.Option.{Option, none, some}
use Rattle.laws.specs.Lists.{all, any, all_below, concat}
use Rattle.standard.specs.Lengths.{Fraction, Value, ticks, ten_values}
use Rattle.reader.specs.Lengths.{quarter_note, longa}

-- the longer of the best so far and one more; the best so far where they are as long
unfoldable pub longer : Option Value → Value → Value
longer none w = w
longer (some x) w = cond (ltb (ticks x) (ticks w)) w x

-- values tried in the order given, as 000 does it: one that is exactly a / b 1024ths of a whole note is answered at once; else the longest below that
unfoldable pub tried : List Value → ℕ → ℕ → Option Value → Option Value
tried [] a b best = best
tried (w ∷ ws) a b best =
    elim (eqb (ticks w * b) a) [
      | true ↦ some w
      | false ↦ tried ws a b (cond (ltb (ticks w * b) a) (some (longer best w)) best)
    ]

-- a value with no dot up to three
abbrev pub dots_up : ℕ → List Value
dots_up v = record { value = v; dots = 0 } ∷ record { value = v; dots = 1 } ∷ record { value = v; dots = 2 } ∷ record { value = v; dots = 3 } ∷ []

-- the values of an order with their dots
unfoldable pub in_order : List ℕ → List Value
in_order order = concat (map dots_up order)

-- what was found; "none gives a plain quarter"
abbrev pub or_quarter : Option Value → Value
or_quarter none = quarter_note
or_quarter (some w) = w

-- what the search in an order answers for a length
unfoldable pub search_in : List ℕ → Fraction → Value
search_in order f = or_quarter (tried (in_order order) (f.over * 1024) f.under none)

-- "the search begins at the longa": 000's
unfoldable pub from_longa : Fraction → Value
from_longa f = search_in ten_values f

-- "Let it begin at the eighth and work outward, the longer of two equally far first"
abbrev pub outward : List ℕ
outward = 5 ∷ 4 ∷ 6 ∷ 3 ∷ 7 ∷ 2 ∷ 8 ∷ 1 ∷ 9 ∷ 0 ∷ []

-- those words as tests of an order: how many halvings or doublings a value is from the eighth; which of two comes first; each before the next
abbrev pub far : ℕ → ℕ
far v = (v - 5) + (5 - v)

abbrev pub nearer : ℕ → ℕ → Bool
nearer v w = ltb (far v) (far w) || (eqb (far v) (far w) && ltb v w)

abbrev pub each_nearer : List ℕ → Bool
each_nearer [] = true
each_nearer (v ∷ []) = true
each_nearer (v ∷ w ∷ vs) = nearer v w && each_nearer (w ∷ vs)

-- "the sixteen values from a half to a sixteenth": 3 is a half, 6 a sixteenth
abbrev pub is_usual : Value → Bool
is_usual w = leb 3 w.value && leb w.value 6

-- an order has each of the ten values, and no other
abbrev pub each_of_ten : List ℕ → Bool
each_of_ten order = all (λ v. ltb v 10) order && all_below 10 (λ v. any (eqb v) order)

-- what no search decides: "Denominator 0 gives longa with 3 dots, 0/0 plain longa", and a length of 0 is below every value, "none gives a plain quarter".
-- 0/0 meets every value, so a search would answer the one that it begins with
unfoldable pub limit_of : Fraction → Option Value
limit_of f =
    elim f.under [
      | zero ↦ elim f.over [ zero ↦ some longa | suc n ↦ some (record { value = 0; dots = 3 }) ]
      | suc p ↦ elim f.over [ zero ↦ some quarter_note | suc n ↦ none ]
    ]

-- the search from the eighth, of the lengths that it decides
unfoldable pub from_eighth : Fraction → Value
from_eighth f = elim (limit_of f) [ none ↦ search_in outward f | some w ↦ w ]
