-- A written value as the code finds it, and the frequent values that are told before the search.
use Rattle.std.specs.Prelude.{ℕ, ◌*◌, true, false, List, [], ◌∷◌, eqb}
use Rattle.std.proofs.Math.Option.{Option, none, some}
use Rattle.standard.specs.Lengths.{Fraction, Value, ticks}
use Rattle.token_lengths.specs.declared.Length.{Length}
use Rattle.token_lengths.specs.Values.{written, length_as}
use Rattle.std.specs.Prelude as code

-- num / parts of a whole note
abbrev pub fraction : ℕ → ℕ → Fraction
fraction num parts = record { over = num; under = parts }

-- a written value, or none
abbrev pub found_as : Option Value → code.Option Length
found_as none = code.None
found_as (some w) = code.Some (length_as w)

-- the first of the values that is exactly a / b 1024ths of a whole note
unfoldable pub first_exact : List Value → ℕ → ℕ → Option Value
first_exact [] a b = none
first_exact (w ∷ ws) a b = elim (eqb (ticks w * b) a) [ true ↦ some w | false ↦ first_exact ws a b ]

-- the most frequent of the values from a half to a sixteenth: eighth, quarter, sixteenth, half, dotted eighth, dotted quarter
abbrev pub frequent : List Value
frequent = written 5 0 ∷ written 4 0 ∷ written 6 0 ∷ written 3 0 ∷ written 5 1 ∷ written 4 1 ∷ []

-- one of them, where the length is it
unfoldable pub frequent_of : Fraction → Option Value
frequent_of f = first_exact frequent (f.over * 1024) f.under
