-- `part_rows::put_note` meets its contract: four writes, each where the last one ended.
use mathlib.Core.Path.{refl}
use Rattle.laws.specs.Bytes.{little}
use Rattle.laws.proofs.Splices.{spliced_next}
use Rattle.part_rows.specs.Encoded.{row_bytes}
use Rattle.part_rows.proofs.put_note.Goals as goal

pub returns : goal.returns
unfolding row_bytes little
returns c =
    let e2 = spliced_next _ _ _ _ _ _ _ c.put_4.ensures c.put_4-2.ensures refl in
    let e3 = spliced_next _ _ _ _ _ _ _ e2 c.put_u32.ensures refl in
    spliced_next _ _ _ _ _ _ _ e3 c.put_4-3.ensures refl
