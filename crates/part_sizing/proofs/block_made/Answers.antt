-- `part_sizing::block_made` meets its contract. The invariant: with the bytes to come it is what the block makes.
use native.Mathlib.Omega.{arith}
use Rattle.part_sizing.proofs.Counting.{block_start, block_under, block_next, block_over}
use Rattle.part_sizing.proofs.block_made.Goals as goal

pub loop-c-init : goal.loop-c-init
loop-c-init c = block_start c.args.block.now

pub with_byte-q-requires : goal.with_byte-q-requires
with_byte-q-requires c =
    let l = c.loop-c in
    block_under c.args.block.now l.q l.c-index l.invariant 255 (omega (arith, c.requires))

pub loop-c-preserved : goal.loop-c-preserved
loop-c-preserved c =
    let l = c.loop-c in
    block_next c.args.block.now l.q l.c-index l.invariant _ (omega arith) c.with_byte-q.ensures

pub returns : goal.returns
returns c =
    let l = c.loop-c in
    block_over c.args.block.now l.q l.c-index l.invariant (omega arith)
