-- `part_steps::on_slur` meets its contract.
use Rattle.part_steps.proofs.Registers.{slur_simulates}
use Rattle.part_steps.proofs.on_slur.Goals as goal

pub returns : goal.returns
returns c = λ t s. slur_simulates c.args.r t s
