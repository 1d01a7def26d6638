-- `part_bars::open_measure` meets its contract.
use Rattle.part_bars.proofs.open_measure.Goals as goal

pub returns : goal.returns
returns c = rw (c.with_heads-x.ensures, c.end_measure-x.ensures)
