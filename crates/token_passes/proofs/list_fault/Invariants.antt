-- `token_passes::list_fault` meets its contract. The loop's invariant is `Faulting`; the measure is what is left of the line.
use Prim.Native.Nat.{◌-◌}
use lib.ListN.{length}
use Rattle.token_passes.proofs.Shapes.{Faulting}
use Rattle.token_passes.proofs.list_fault.Given as goal

abbrev pub invariant-loop-shape : goal.invariant-loop-shape
invariant-loop-shape l = Faulting l.line l.at l.in_range l.i

abbrev pub decreases-loop-shape : goal.decreases-loop-shape
decreases-loop-shape l = length l.line - l.i
