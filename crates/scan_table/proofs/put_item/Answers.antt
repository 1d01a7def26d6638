-- `scan_table::put_item` meets its contract: four writes, each where the last ended.
use mathlib.Core.Path.{refl}
use Rattle.laws.specs.Bytes.{little}
use Rattle.laws.proofs.Splices.{spliced_next}
use Rattle.scan_table.specs.Rows.{enc_item}
use Rattle.scan_table.proofs.put_item.Goals as goal

pub returns : goal.returns
unfolding enc_item little
returns c =
    rw (← c.from.ensures) (
    let e2 = spliced_next _ _ _ _ _ _ _ c.put_4.ensures c.put_u32.ensures refl in
    let e3 = spliced_next _ _ _ _ _ _ _ e2 c.put_u32-2.ensures refl in
    spliced_next _ _ _ _ _ _ _ e3 c.put_u32-3.ensures refl)
