-- `token_values::abc_note_value` meets its contract: each of its three ways gives the reader's written value, and the bound on the parts changes nothing.
use mathlib.Core.Path.{◌≡◌, sym, ap, ◌∙◌}
use Prim.Native.Nat.{ℕ, ◌<◌, ◌*◌, ◌^◌, max, min}
use native.Mathlib.Omega.{arith}
use Rattle.standard.specs.Lengths.{length_fraction}
use Rattle.reader.specs.Lengths.{written_as}
use Rattle.reader.specs.Search.{limit_of}
use Rattle.reader.proofs.Searches.{limit_is, limit_none, outward_as_written}
use Rattle.token_lengths.specs.Values.{length_as}
use Rattle.token_values.specs.Found.{fraction, frequent_of}
use Rattle.token_values.proofs.Founds.{found_none, found_length}
use Rattle.token_values.proofs.Frequent.{frequent_is}
use Rattle.token_values.proofs.Searches.{written_bounded}
use Rattle.token_values.proofs.abc_note_value.Goals as goal

-- the parts as they are computed give the same value
length_is : (unit_den num den parts : ℕ) → num < 2 ^ 32 → parts ≡ min (den * max unit_den 1) (2 ^ 43) → written_as (fraction num parts) ≡ written_as (length_fraction unit_den num den)
unfolding length_fraction
length_is unit_den num den parts small e = rw e (written_bounded _ _ small)

pub search_value-requires : goal.search_value-requires
search_value-requires c =
    let positive = limit_none (fraction _ _) (found_none (limit_of _) (sym c.limit_value.ensures ∙ c.in_default.is)) in
    (positive.1, omega (arith, c.min-parts.ensures))

pub returns : goal.returns
returns c =
    let positive = limit_none (fraction _ _) (found_none (limit_of _) (sym c.limit_value.ensures ∙ c.in_default.is)) in
    let e = length_is c.args.unit_den c.args.num c.args.den c.min-parts.result (omega arith) (rw (c.min-parts.ensures, c.from.ensures, c.from-2.ensures, c.max.ensures)) in
    c.search_value.ensures ∙ ap length_as (outward_as_written _ (omega (arith, positive.0)) ∙ e)

pub returns-in-Some : goal.returns-in-Some
returns-in-Some c =
    let e = length_is c.args.unit_den c.args.num c.args.den c.min-parts.result (omega arith) (rw (c.min-parts.ensures, c.from.ensures, c.from-2.ensures, c.max.ensures)) in
    found_length (limit_of _) _ _ (sym c.limit_value.ensures ∙ c.in-Some.is) (λ v h. sym e ∙ limit_is _ v h)

pub returns-in-Some-frequent_value : goal.returns-in-Some-frequent_value
returns-in-Some-frequent_value c =
    let positive = limit_none (fraction _ _) (found_none (limit_of _) (sym c.limit_value.ensures ∙ c.in_default.is)) in
    let e = length_is c.args.unit_den c.args.num c.args.den c.min-parts.result (omega arith) (rw (c.min-parts.ensures, c.from.ensures, c.from-2.ensures, c.max.ensures)) in
    found_length (frequent_of _) _ _ (sym c.frequent_value.ensures ∙ c.in-Some-frequent_value.is) (λ v h. sym e ∙ frequent_is _ v positive.1 h)
