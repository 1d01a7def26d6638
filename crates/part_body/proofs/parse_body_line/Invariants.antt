-- `part_body::parse_body_line` meets its contract. The invariant: from where the line began to here, and what is left of the line does the rest.
use Prim.Native.Nat.{◌-◌}
use lib.ListN.{length}
use Rattle.part_body.proofs.Lines.{Going}
use Rattle.part_body.proofs.parse_body_line.Given as goal

abbrev pub invariant-loop-at : goal.invariant-loop-at
invariant-loop-at l = Going l.edition l.line l.t l.initial.store l.initial.x l.store l.x l.at

abbrev pub decreases-loop-at : goal.decreases-loop-at
decreases-loop-at l = length l.line - l.at
