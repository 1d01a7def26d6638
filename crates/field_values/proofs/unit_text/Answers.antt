-- `field_values::unit_text` meets its contract, by the slashes.
use Rattle.field_values.proofs.FieldLaws.{unit_absent, unit_between, unit_behind}
use Rattle.field_values.proofs.unit_text.Goals as goal

pub returns-in_err-behind : goal.returns-in_err-behind
returns-in_err-behind c = rw (c.from_residual.ensures, ← c.trim.ensures) (unit_absent _ c.in_err-behind.ensures)

pub returns-in-Some : goal.returns-in-Some
returns-in-Some c = rw (← c.trim.ensures) (unit_between _ _ _ _ _ c.in_ok-behind.ensures c.in-Some.ensures)

pub returns-in-None : goal.returns-in-None
returns-in-None c = rw (← c.trim.ensures) (unit_behind _ _ _ c.in_ok-behind.ensures c.in-None.ensures)
