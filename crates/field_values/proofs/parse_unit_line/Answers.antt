-- `field_values::parse_unit_line` meets its contract, by what stands behind the slash.
use Prim.Native.Nat.{ℕ}
use mathlib.Core.Path.{sym, ap, ◌∙◌}
use mathlib.Core.Option.{some}
use Rattle.reader.specs.Fields.{unit_of, line_unit}
use Rattle.field_values.proofs.FieldLaws.{eight}
use Rattle.field_values.proofs.parse_unit_line.Goals as goal

pub returns-in_err-text : goal.returns-in_err-text
unfolding unit_of line_unit
returns-in_err-text c = rw c.from_residual.ensures (sym (ap line_unit c.in_err-text.ensures))

pub returns : goal.returns
unfolding unit_of line_unit
returns c = ap (λ (n : ℕ). some n) (c.unwrap_or.ensures ∙ eight _ _ c.unit_number.ensures) ∙ sym (ap line_unit c.in_ok-text.ensures)
