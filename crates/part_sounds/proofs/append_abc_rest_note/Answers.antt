-- `part_sounds::append_abc_rest_note` meets its contract.
use Rattle.part_sounds.proofs.append_abc_rest_note.Goals as goal

pub returns : goal.returns
returns c = rw c.rest_row.ensures
