-- `part_append::as_written` meets its contract.
use mathlib.Core.Path.{ap, ◌∙◌}
use Rattle.part_registers.specs.Notes.{halved_row}
use Rattle.part_append.proofs.as_written.Goals as goal

pub returns : goal.returns
returns c = c.after_half.ensures ∙ ap (halved_row c.args.half) c.beamed_new.ensures
