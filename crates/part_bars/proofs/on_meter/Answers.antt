-- `part_bars::on_meter` meets its contract.
use Rattle.part_bars.proofs.Heads.{represented_heads, meter_simulates}
use native.Mathlib.Omega.{arith}
use Rattle.part_bars.proofs.on_meter.Goals as goal

pub overflow_sub-i : goal.overflow_sub-i
overflow_sub-i c = omega (arith, represented_heads c.requires.1)

pub set_meter-requires : goal.set_meter-requires
set_meter-requires c = let room = c.requires.0 in omega (arith, room, represented_heads c.requires.1)

pub returns : goal.returns
returns c =
    let a = c.args in
    meter_simulates a.top a.bottom c.requires.0 c.requires.1 _ c.set_meter.ensures
