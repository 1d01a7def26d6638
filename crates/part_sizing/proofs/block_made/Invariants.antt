-- `part_sizing::block_made` meets its contract. The invariant: with the bytes to come it is what the block makes.
use mathlib.Core.Path.{◌≡◌}
use lib.ListN.{drop}
use Rattle.part_sizing.specs.Counting.{made_of, more}
use Rattle.part_sizing.proofs.block_made.Given as goal

abbrev pub invariant-loop-c : goal.invariant-loop-c
invariant-loop-c l = more l.q (drop l.c-index l.block) ≡ made_of l.block
