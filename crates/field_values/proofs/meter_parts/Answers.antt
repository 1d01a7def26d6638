-- `field_values::meter_parts` meets its contract, by the slash.
use mathlib.Core.Path.{sym}
use Rattle.field_values.proofs.FieldLaws.{parts_slash, parts_plain}
use Rattle.field_values.proofs.meter_parts.Goals as goal

pub returns-in-Some : goal.returns-in-Some
returns-in-Some c = rw (c.meter_number.ensures, c.meter_number-in-Some.ensures) (sym (parts_slash _ _ _ c.in-Some.ensures))

pub returns-in-None : goal.returns-in-None
returns-in-None c = rw c.meter_number-in-None.ensures (sym (parts_plain _ c.in-None.ensures))
