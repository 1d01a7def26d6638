-- `field_values::unit_number` meets its contract: a number up to the bound fits.
use Prim.Native.Nat.{◌≤◌}
use mathlib.Core.Path.{sym}
use native.Mathlib.Omega.{arith}
use Rattle.field_values.proofs.FieldLaws.{numeral_le}
use Rattle.field_values.proofs.unit_number.Goals as goal

pub overflow_cast-result : goal.overflow_cast-result
overflow_cast-result c =
    let h : c.in-Some.number ≤ 4294967295 = numeral_le 4294967295 _ _ (sym c.in-Some.ensures) in
    omega (arith, h)
