-- `scan::scan_lines` meets its contract. The invariant: the items in scratch, before what is still to come of the rows, are the whole scan; and there
-- is room for the next line.
use Prim.Native.Nat.{◌-◌}
use lib.ListN.{length}
use Rattle.scan.proofs.Loop.{Head}
use Rattle.scan.proofs.scan_lines.Given as goal

abbrev pub invariant-loop-at : goal.invariant-loop-at
invariant-loop-at l = Head l.edition l.text l.initial.scratch l.scratch l.st l.at

abbrev pub decreases-loop-at : goal.decreases-loop-at
decreases-loop-at l = length l.text - l.at
