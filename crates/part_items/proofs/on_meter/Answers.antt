-- `part_items::on_meter` meets its contract.
use Rattle.part_items.proofs.Each.{meter_none, meter_some}
use native.Mathlib.Omega.{arith}
use Rattle.part_items.proofs.on_meter.Goals as goal

pub returns-then-counts-eq0 : goal.returns-then-counts-eq0
returns-then-counts-eq0 c =
    let a = c.args in
    λ ed header. meter_none ed header a.top a.bottom c.if-counts-eq0.true

pub returns : goal.returns
returns c =
    let a = c.args in
    λ ed header. meter_some ed c.requires.0 header header (omega (arith, c.if-counts-eq0.false)) c.requires.1 _ a.top a.bottom c.set_meter.ensures
