-- `lyrics::put_row` meets its contract.
use mathlib.Core.Path.{refl}
use Rattle.laws.specs.Bytes.{little}
use Rattle.laws.proofs.Splices.{spliced_next}
use Rattle.lyrics.specs.Sheet.{row_bytes}
use Rattle.lyrics.proofs.put_row.Goals as goal

pub returns : goal.returns
unfolding row_bytes little
returns c =
    let one = c.put_4.ensures in
    let two = spliced_next _ _ _ _ _ _ _ one c.put_u32.ensures refl in
    let three = spliced_next _ _ _ _ _ _ _ two c.put_u32-2.ensures refl in
    spliced_next _ _ _ _ _ _ _ three c.put_u32-3.ensures refl
