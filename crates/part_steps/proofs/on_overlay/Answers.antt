-- `part_steps::on_overlay` meets its contract.
use Rattle.part_steps.proofs.Registers.{overlay_simulates}
use Rattle.part_steps.proofs.on_overlay.Goals as goal

pub returns : goal.returns
returns c = λ t s. overlay_simulates c.args.r t s _ c.next_voice.ensures
