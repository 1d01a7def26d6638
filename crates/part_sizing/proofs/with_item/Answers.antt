-- `part_sizing::with_item` meets its contract.
use Rattle.part_sizing.proofs.Counting.{other_kind, other_part, line_counted}
use Rattle.part_sizing.proofs.with_item.Goals as goal

pub returns-in_default : goal.returns-in_default
returns-in_default c =
    let a = c.args in
    other_kind a.text.now _ _ a.part a.m c.get_item-item.ensures c.in_default.not-MusicLine

pub returns-then-item-part : goal.returns-then-item-part
returns-then-item-part c =
    let a = c.args in
    other_part a.text.now _ _ a.part a.m c.get_item-item.ensures c.if-item-part.true

pub returns : goal.returns
returns c =
    let a = c.args in
    line_counted a.text.now _ _ a.part a.m c.get_item-item.ensures c.in-MusicLine.is c.if-item-part.false _ c.with_line.ensures
