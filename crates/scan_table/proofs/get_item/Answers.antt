-- `scan_table::get_item` meets its contract: its row, field by field, the place cut to the text.
use Rattle.scan_table.specs.Rows.{row_from}
use Rattle.scan_table.proofs.Rows.{row_read}
use mathlib.Core.Path.{refl}
use Rattle.scan_table.proofs.get_item.Goals as goal

pub returns : goal.returns
returns c =
    let a = c.args in
    row_read a.text.now a.scratch.now (row_from a.i) _ c.from.ensures refl refl refl c.get_u32.ensures
    (rw (← c.get_u32-at.ensures, ← c.get_u32-end.ensures) c.cut_place-p.ensures)
