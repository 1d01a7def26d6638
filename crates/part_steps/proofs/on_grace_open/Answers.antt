-- `part_steps::on_grace_open` meets its contract.
use Rattle.part_steps.proofs.Registers.{grace_open_simulates}
use Rattle.part_steps.proofs.on_grace_open.Goals as goal

pub returns : goal.returns
returns c = λ t s. grace_open_simulates c.args.r t s
