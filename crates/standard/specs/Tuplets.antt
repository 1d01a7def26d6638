-- TUPLETS (ABC 2.1, 4.13): `(p:q:r`, p notes in the time of q for the next r notes.
use Rattle.std.specs.Prelude.{ℕ, zero, suc, ◌+◌, Bool, true, false, cond, ◌&&◌, ◌||◌, eqb}
use Rattle.std.proofs.Math.Option.{Option, none, some}
use Rattle.standard.specs.Fields.{Meter}

-- actual notes, in the time of normal ones, for the next count notes
pub record Tuplet : Type 0 where
  pub actual : ℕ
  pub normal : ℕ
  pub count : ℕ

-- the default of q for `(2`, `(3` and `(4`: 3, 2, 3
unfoldable pub usual_normal : ℕ → Option ℕ
usual_normal p = elim (eqb p 2 || eqb p 4) [ true ↦ some 3 | false ↦ cond (eqb p 3) (some 2) none ]

-- a default that the meter decides, where the tuplet stands
abbrev pub by_meter : ℕ
by_meter = 0

abbrev pub waits_for_meter : ℕ → Bool
waits_for_meter p = eqb p 5 || eqb p 7 || eqb p 9

-- the defaults of q for p from 2 to 9: `(6` goes in 2 and `(8` in 3; of `(5`, `(7` and `(9` the meter decides
unfoldable pub default_normal : ℕ → Option ℕ
default_normal p =
    elim (waits_for_meter p) [
      | true ↦ some by_meter
      | false ↦ elim (eqb p 6) [ true ↦ some 2 | false ↦ cond (eqb p 8) (some 3) (usual_normal p) ]
    ]

-- COMPOUND METER: 6/8, 9/8 and 12/8 ("The standard names 6/8, 9/8 and 12/8 only", document 02, T-06)
unfoldable pub compound : Meter → Bool
compound m = (eqb m.0 6 || eqb m.0 9 || eqb m.0 12) && eqb m.1 8

-- q under a meter: where the meter decides it is 3 in a compound one and 2 in all others; any other q stays
unfoldable pub normal_in : Meter → ℕ → ℕ
normal_in m zero = cond (compound m) 3 2
normal_in m (suc q) = suc q

-- where a note stands in its tuplet: 0 inside, 1 at the start, 2 at the stop, 3 both
unfoldable pub boundary : Bool → Bool → ℕ
boundary starts stops = cond starts 1 0 + cond stops 2 0
