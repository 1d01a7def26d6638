-- `field_values::parse_unit_inline` meets its contract, by what stands behind the slash.
use mathlib.Core.Path.{sym, ap, ◌∙◌}
use Rattle.reader.specs.Fields.{unit_inline, inline_unit}
use Rattle.field_values.proofs.parse_unit_inline.Goals as goal

pub returns-in_err-unit_text : goal.returns-in_err-unit_text
unfolding unit_inline inline_unit
returns-in_err-unit_text c = rw c.from_residual.ensures (sym (ap inline_unit c.in_err-unit_text.ensures))

pub returns : goal.returns
unfolding unit_inline inline_unit
returns c = c.unit_number.ensures ∙ sym (ap inline_unit c.in_ok-unit_text.ensures)
