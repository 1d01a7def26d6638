-- `token_passes::parse_passes` meets its contract. The loop's invariant is `Passing`; the measure is what is left of the line.
use Prim.Native.Nat.{◌-◌}
use lib.ListN.{length}
use Rattle.token_passes.proofs.Reading.{Passing}
use Rattle.token_passes.proofs.parse_passes.Given as goal

abbrev pub invariant-loop-item : goal.invariant-loop-item
invariant-loop-item l = Passing l.line l.at l.first l.bits l.low l.i

abbrev pub decreases-loop-item : goal.decreases-loop-item
decreases-loop-item l = length l.line - l.i
