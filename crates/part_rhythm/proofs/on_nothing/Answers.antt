-- `part_rhythm::on_nothing` meets its contract.
use Rattle.part_rhythm.proofs.Rhythm.{overlay_small, inside, nothing_either}
use Rattle.part_rhythm.proofs.on_nothing.Goals as goal

pub last_row-row-requires : goal.last_row-row-requires
last_row-row-requires c = overlay_small c.requires.1

pub run_after-run-requires : goal.run_after-run-requires
run_after-run-requires c = inside c.requires.0 c.requires.1 _ c.last_row-row.ensures

pub returns : goal.returns
returns c = nothing_either c.requires.0 c.requires.1 _ c.last_row-row.ensures _ c.run_after-run.ensures.store_after _ c.run_after-run.ensures.value _ c.run_on.ensures
