-- `scan_fields::meter_line` meets its contract.
use Rattle.refusals.specs.declared.Refusal.{Refusal}
use Rattle.scan_states.proofs.Items.{by_kind, refused_kind}
use mathlib.Core.Path.{sym, ◌∙◌}
use Rattle.scan_fields.proofs.FieldKinds.{high_meter, is_meter}
use Rattle.scan_fields.proofs.meter_line.Goals as goal

pub returns-then-has_high : goal.returns-then-has_high
returns-then-has_high c =
    let a = c.args in
    λ ed text. rw c.refuse.ensures (refused_kind _ Refusal.NotAscii _ (high_meter ed a.line.now (sym c.has_high.ensures ∙ c.if-has_high.true)))

pub returns : goal.returns
returns c =
    let a = c.args in
    λ ed text. by_kind _ _ _
    (is_meter ed a.line.now (sym c.has_high.ensures ∙ c.if-has_high.false) _ c.parse_meter-m.ensures)
    (c.set_meter.ensures text)
