-- `part_rhythm::run_on` meets its contract.
use Rattle.part_rhythm.proofs.run_on.Goals as goal

pub returns : goal.returns
returns c = rw c.with_run-x.ensures
