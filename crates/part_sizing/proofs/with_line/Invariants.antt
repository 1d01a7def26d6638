-- `part_sizing::with_line` meets its contract. The invariant: with the blocks to come it is what the whole line makes.
use mathlib.Core.Path.{◌≡◌}
use Rattle.std.specs.Slice.Iter.{chunks_rest, chunks_size}
use Rattle.part_sizing.specs.Counting.{more}
use Rattle.part_sizing.proofs.with_line.Given as goal

abbrev pub invariant-loop-block : goal.invariant-loop-block
invariant-loop-block l =
    goal.iterator-loop-block.can_next l.block-iterator
    × goal.iterator-loop-block.is_finite l.block-iterator
    × (chunks_size l.block-iterator ≡ 240)
    × (more l.q (chunks_rest l.block-iterator) ≡ more l.initial.q l.line)
