-- `scan_table::get_voice` meets its contract: the two numbers of its row, cut to the text.
use Prim.Native.Nat.{◌*◌, ◌-◌}
use mathlib.Core.Path.{◌∙◌}
use Rattle.laws.proofs.Parts.{part_cut}
use Rattle.scan_table.specs.Rows.{voice_row_width}
use Rattle.scan_table.proofs.Rows.{voice_read}
use Rattle.scan_table.proofs.get_voice.Goals as goal

pub returns : goal.returns
returns c =
    let a = c.args in
    let t = a.text.now in
    let s = a.scratch.now in
    let p = c.cut_place-place.result in
    part_cut t p.at (p.end - p.at) ∙ voice_read t s (voice_row_width * a.i) p (rw (← c.get_u32-at.ensures, ← c.get_u32-end.ensures) c.cut_place-place.ensures)
