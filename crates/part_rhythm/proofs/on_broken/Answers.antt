-- `part_rhythm::on_broken` meets its contract.
use Rattle.part_rhythm.proofs.Rhythm.{overlay_small, inside, broken_either}
use Rattle.part_rhythm.proofs.on_broken.Goals as goal

pub last_row-row-requires : goal.last_row-row-requires
last_row-row-requires c = overlay_small c.requires.1

pub break_row-requires : goal.break_row-requires
break_row-requires c = inside c.requires.0 c.requires.1 _ c.last_row-row.ensures

pub returns : goal.returns
returns c = broken_either c.requires.0 c.requires.1 _ c.last_row-row.ensures c.args.up c.args.times _ c.break_row.ensures _ c.wait_for.ensures
