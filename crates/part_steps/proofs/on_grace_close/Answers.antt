-- `part_steps::on_grace_close` meets its contract.
use Rattle.part_steps.proofs.Registers.{grace_close_simulates}
use Rattle.part_steps.proofs.on_grace_close.Goals as goal

pub returns : goal.returns
returns c = λ t s. grace_close_simulates c.args.r t s
