-- `tally_text::append_lines` meets its contract: what is written, and what is still to come, are all lines.
use borrow.Author.Rules.{rules}
use Rattle.tally_text.proofs.Lines.{nothing, part_there, line_there, next, finished}
use Rattle.tally_text.proofs.append_lines.Goals as goal

pub loop-i-init : goal.loop-i-init
loop-i-init c = let p = c.requires in nothing _ _ _ _ p.parts_within p.room

pub count_part-c-requires : goal.count_part-c-requires
count_part-c-requires c = part_there _ _ _ _ _ _ _ _ c.loop-i.invariant c.loop-i-test.true

pub append_line-end-requires : goal.append_line-end-requires
append_line-end-requires c = line_there _ _ _ _ _ _ _ _ c.loop-i.invariant c.loop-i-test.true

pub loop-i-preserved : goal.loop-i-preserved
loop-i-preserved c =
    let l = c.loop-i in
    let p = c.count_part-c.ensures in
    next _ _ _ _ _ _ _ _ l.invariant c.loop-i-test.true _ _ _ _ p.syllables_value p.end_value (search rules) c.append_line-end.ensures

pub shape_of-out : goal.shape_of-out
shape_of-out c = c.loop-i.invariant.kept

pub returns : goal.returns
returns c = finished _ _ _ _ _ _ _ _ c.loop-i.invariant c.loop-i-test.false
