-- `part_bars::end_measure` meets its contract.
use Rattle.part_bars.proofs.end_measure.Goals as goal

pub returns : goal.returns
returns c = rw (c.first_voice-x.ensures, c.forget-x.ensures, c.with_heads-x.ensures)
