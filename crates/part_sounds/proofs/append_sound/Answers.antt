-- `part_sounds::append_sound` meets its contract.
use Rattle.part_sounds.proofs.append_sound.Goals as goal

pub returns : goal.returns
returns c = rw (c.after_pending-x.ensures, c.sound_row-row.ensures, c.note_flags-flags.ensures)
