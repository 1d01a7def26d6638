-- `field_values::meter_number` meets its contract: the number is read from the trimmed text.
use Prim.Native.Nat.{◌≤◌}
use mathlib.Core.Path.{sym, ap, ◌∙◌}
use native.Mathlib.Omega.{arith}
use Rattle.reader.specs.Pieces.{numeral}
use Rattle.reader.specs.Fields.{meter_number, or_four}
use Rattle.field_values.proofs.FieldLaws.{numeral_le}
use Rattle.field_values.proofs.meter_number.Goals as goal

pub overflow_cast-result : goal.overflow_cast-result
overflow_cast-result c =
    let h : c.in-Some.number ≤ 255 = numeral_le 255 _ _ (sym c.in-Some.ensures) in
    omega (arith, h)

pub returns-in-Some : goal.returns-in-Some
unfolding meter_number or_four
returns-in-Some c = ap or_four (c.in-Some.ensures ∙ ap (numeral 255) c.trim.ensures)

pub returns-in-None : goal.returns-in-None
unfolding meter_number or_four
returns-in-None c = ap or_four (c.in-None.ensures ∙ ap (numeral 255) c.trim.ensures)
