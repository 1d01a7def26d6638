-- `part_sizing::with_line` meets its contract. The invariant: with the blocks to come it is what the whole line makes.
use mathlib.Core.Path.{◌∙◌}
use native.Mathlib.Omega.{arith}
use Rattle.std.specs.Slice.Iter.{chunks_rest}
use Rattle.part_sizing.proofs.Counting.{line_over, line_adds, line_next}
use Rattle.part_sizing.proofs.with_line.Goals as goal

pub with_block-q-requires : goal.with_block-q-requires
with_block-q-requires c =
    let l = c.loop-block in
    line_adds c.args.line.now (chunks_rest l.block-iterator) c.args.m l.q l.invariant.3 c.in-Some.block.now (chunks_rest c.next.new.self) c.in-Some.ensures.steps.1.0 _ c.block_made.ensures c.requires

pub loop-block-preserved : goal.loop-block-preserved
loop-block-preserved c =
    let l = c.loop-block in
    let steps = c.in-Some.ensures.steps in
    let size = steps.0 ∙ l.invariant.2 in (
      omega (arith, size),
      tt,
      size,
      line_next c.args.line.now (chunks_rest l.block-iterator) c.args.m l.q l.invariant.3 c.in-Some.block.now (chunks_rest c.next.new.self) steps.1.0 _ c.block_made.ensures _ c.with_block-q.ensures,
    )

pub returns : goal.returns
returns c =
    let l = c.loop-block in
    line_over c.args.line.now _ c.args.m l.q l.invariant.3 c.in-None.ensures.steps.1.0
