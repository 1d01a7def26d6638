-- `part_steps::on_space` meets its contract.
use Rattle.part_steps.proofs.Registers.{space_simulates}
use Rattle.part_steps.proofs.on_space.Goals as goal

pub returns : goal.returns
returns c = λ t s. rw c.with_run-x.ensures (space_simulates c.args.r t s)
