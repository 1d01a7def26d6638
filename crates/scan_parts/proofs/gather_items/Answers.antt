-- `scan_parts::gather_items` meets its contract: so far those of the part among the first i items are gathered.
use mathlib.Core.Path.{◌∙◌}
use native.Mathlib.Omega.{arith}
use borrow.Author.Rules.{rules}
use Rattle.scan_parts.proofs.Gathering.{gathering_start, row_inside, item_inside, at_fits, end_fits, gathering_own, gathering_other, gathered}
use Rattle.scan_parts.proofs.gather_items.Goals as goal

pub loop-i-init : goal.loop-i-init
loop-i-init c = gathering_start _ _ _ _

pub part_of-requires : goal.part_of-requires
part_of-requires c =
    let p = c.requires in
    item_inside _ _ _ _ p.0 p.1 _ _ _ c.loop-i.invariant c.loop-i-test.true

pub loop-i-preserved-then-part_of-part : goal.loop-i-preserved-then-part_of-part
loop-i-preserved-then-part_of-part c =
    let p = c.requires in
    gathering_other _ _ _ _ p.0 p.1 _ _ _ c.loop-i.invariant c.loop-i-test.true (λ e. c.if-part_of-part.true (c.part_of.ensures ∙ e))

pub get_item-row-requires : goal.get_item-row-requires
get_item-row-requires c =
    let p = c.requires in
    item_inside _ _ _ _ p.0 p.1 _ _ _ c.loop-i.invariant c.loop-i-test.true

pub overflow_add-n : goal.overflow_add-n
overflow_add-n c = omega (arith, c.requires.0, c.well_formed)

pub put_item-requires : goal.put_item-requires
put_item-requires c =
    let p = c.requires in
    let g = c.loop-i.invariant in
    let l = c.loop-i-test.true in
    let r = c.get_item-row.ensures in
    (row_inside _ _ _ _ p.0 p.1 _ _ _ g l, at_fits _ _ _ _ p.0 p.1 _ _ _ g l _ r, end_fits _ _ _ _ p.0 p.1 _ _ _ g l _ r)

pub loop-i-preserved : goal.loop-i-preserved
loop-i-preserved c =
    let p = c.requires in
    let g = c.loop-i.invariant in
    let l = c.loop-i-test.true in
    gathering_own _ _ _ _ p.0 p.1 _ _ _ g l _ c.get_item-row.ensures (search rules) _ c.put_item.ensures

pub returns : goal.returns
returns c = gathered _ _ _ _ _ _ _ c.loop-i.invariant (search rules)
