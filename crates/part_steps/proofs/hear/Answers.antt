-- `part_steps::hear` meets its contract.
use Rattle.part_steps.proofs.hear.Goals as goal

pub returns : goal.returns
returns c = rw c.with_heads-x.ensures
