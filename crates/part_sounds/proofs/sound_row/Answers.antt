-- `part_sounds::sound_row` meets its contract.
use Rattle.part_sounds.proofs.sound_row.Goals as goal

pub returns : goal.returns
returns c = rw (c.dots_of.ensures, c.value_of.ensures)
