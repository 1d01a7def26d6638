-- `part_steps::on_tuplet` meets its contract.
use Rattle.part_steps.proofs.Registers.{tuplet_simulates}
use Rattle.part_steps.proofs.on_tuplet.Goals as goal

pub returns : goal.returns
returns c =
    let a = c.args in
    λ t s. tuplet_simulates a.r t s a.tuplet.actual a.tuplet.normal a.tuplet.count c.normal_in.result c.normal_in.ensures
