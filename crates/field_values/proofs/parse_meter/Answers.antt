-- `field_values::parse_meter` meets its contract: the names one after the other, then the parts.
use mathlib.Core.Path.{sym, ◌∙◌}
use Rattle.reader.specs.Fields.{meter_of}
use Rattle.field_values.proofs.FieldLaws.{meter_common, meter_cut, meter_small, meter_plain}
use Rattle.field_values.proofs.parse_meter.Goals as goal

pub returns-then-is_text : goal.returns-then-is_text
unfolding meter_of
returns-then-is_text c = rw (← c.trim-text.ensures) (sym (meter_common _ (sym c.is_text.ensures ∙ c.if-is_text.true)))

pub returns-then-is_text-2 : goal.returns-then-is_text-2
unfolding meter_of
returns-then-is_text-2 c =
    rw (← c.trim-text.ensures)
    (sym (meter_cut _ (sym c.is_text.ensures ∙ c.if-is_text.false) (sym c.is_text-2.ensures ∙ c.if-is_text-2.true)))

pub returns-then-is_text-3 : goal.returns-then-is_text-3
unfolding meter_of
returns-then-is_text-3 c =
    rw (← c.trim-text.ensures)
    (sym (meter_small _ (sym c.is_text.ensures ∙ c.if-is_text.false) (sym c.is_text-2.ensures ∙ c.if-is_text-2.false) (sym c.is_text-3.ensures ∙ c.if-is_text-3.true)))

pub returns : goal.returns
unfolding meter_of
returns c =
    rw (← c.trim-text.ensures)
    (c.meter_parts.ensures ∙ sym (meter_plain _ (sym c.is_text.ensures ∙ c.if-is_text.false) (sym c.is_text-2.ensures ∙ c.if-is_text-2.false) (sym c.is_text-3.ensures ∙ c.if-is_text-3.false)))
