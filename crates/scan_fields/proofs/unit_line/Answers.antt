-- `scan_fields::unit_line` meets its contract.
use Rattle.refusals.specs.declared.Refusal.{Refusal}
use Rattle.scan_states.proofs.Items.{by_kind, refused_kind}
use mathlib.Core.Path.{sym, ◌∙◌}
use Rattle.scan_fields.proofs.FieldKinds.{high_unit, is_unit}
use Rattle.scan_fields.proofs.unit_line.Goals as goal

pub returns-then-has_high : goal.returns-then-has_high
returns-then-has_high c =
    let a = c.args in
    λ ed text s. rw c.refuse.ensures (refused_kind _ Refusal.NotAscii _ (high_unit ed a.line.now (sym c.has_high.ensures ∙ c.if-has_high.true)))

pub returns : goal.returns
returns c =
    let a = c.args in
    λ ed text s. by_kind _ _ _
    (is_unit ed a.line.now (sym c.has_high.ensures ∙ c.if-has_high.false) _ c.parse_unit_line-u.ensures)
    (c.set_unit.ensures text s)
