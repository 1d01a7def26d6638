-- `part_sounds::rest_row` meets its contract.
use Rattle.part_sounds.proofs.rest_row.Goals as goal

pub returns : goal.returns
returns c = rw (c.dots_of.ensures, c.value_of.ensures)
