-- `part_sizing::made_by` meets its contract. The invariant: with the items to come it is what the part's music makes.
use Prim.Native.Nat.{◌+◌}
use native.Mathlib.Omega.{arith}
use lib.ListN.{length}
use Rattle.part_sizing.proofs.Counting.{items_start, items_few, items_more, items_over}
use Rattle.part_sizing.proofs.made_by.Goals as goal

pub loop-i-init : goal.loop-i-init
loop-i-init c =
    let a = c.args in
    items_start a.text.now a.scratch.now a.n a.part

pub with_item-q-requires : goal.with_item-q-requires
with_item-q-requires c =
    let a = c.args in
    let p = c.requires in
    let l = c.loop-i in
    (omega (arith, p.fits), items_few a.text.now a.scratch.now a.n a.part l.q l.i l.invariant (length a.text.now + 1) (omega (arith, p.small, p.short)))

pub loop-i-preserved : goal.loop-i-preserved
loop-i-preserved c =
    let a = c.args in
    let l = c.loop-i in
    items_more a.text.now a.scratch.now a.n a.part l.q l.i l.invariant _ (omega arith) c.with_item-q.ensures

pub returns : goal.returns
returns c =
    let a = c.args in
    let l = c.loop-i in
    items_over a.text.now a.scratch.now a.n a.part l.q l.i l.invariant (omega arith)
