-- `part_items::on_reset` meets its contract.
use Rattle.part_items.proofs.Each.{reset_simulates}
use Rattle.part_items.proofs.on_reset.Goals as goal

pub returns : goal.returns
returns c = λ ed t s header. reset_simulates ed header
