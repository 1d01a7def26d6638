-- `part_steps::on_unit` meets its contract.
use Rattle.part_steps.proofs.Registers.{unit_simulates}
use Rattle.part_steps.proofs.on_unit.Goals as goal

pub returns : goal.returns
returns c = λ t s. unit_simulates c.args.r t s c.args.unit
