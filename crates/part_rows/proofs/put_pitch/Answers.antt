-- `part_rows::put_pitch` meets its contract: four bytes, and the last where they ended.
use Prim.Native.Nat.{◌+◌, ◌*◌}
use mathlib.Core.Path.{refl, ap, ◌∙◌}
use Rattle.laws.specs.Bytes.{splice}
use Rattle.laws.proofs.Splices.{spliced_next}
use Rattle.part_rows.proofs.Bytes.{pitch_bytes_lem}
use Rattle.part_rows.specs.Encoded.{pitch_row_width}
use Rattle.part_rows.proofs.put_pitch.Goals as goal

pub returns : goal.returns
returns c =
    let a = c.args in
    let e = spliced_next _ _ _ _ _ _ _ c.put_4.ensures c.put_u8.ensures refl in
    e
    ∙ ap (splice a.store.now (a.at + pitch_row_width * a.i))
    (pitch_bytes_lem a.p _ _ _ _ c.signed.ensures c.signed-2.ensures c.signed-cents.ensures c.sign.ensures)
