-- `scan_table::part_of` meets its contract: the byte of the row that holds the part.
use mathlib.Core.Path.{refl}
use Rattle.scan_table.proofs.Rows.{part_read}
use Rattle.scan_table.proofs.part_of.Goals as goal

pub returns : goal.returns
returns c = part_read _ _ _ refl
