-- `part_append::after_note` meets its contract.
use Rattle.part_append.proofs.after_note.Goals as goal

pub returns : goal.returns
returns c = rw (c.count_sounded-x.ensures, c.one_fewer-x.ensures, c.with_run-x.ensures, c.update_abc_beam_run.ensures, c.with_place-x.ensures)
