-- `token_pitches::parse_abc_chord` meets its contract. The loop's invariant is `Counting`; the measure is what is left of the line.
use Prim.Native.Nat.{◌-◌}
use lib.ListN.{length}
use Rattle.token_pitches.proofs.Walk.{Counting}
use Rattle.token_pitches.proofs.parse_abc_chord.Given as goal

abbrev pub invariant-loop-next : goal.invariant-loop-next
invariant-loop-next l = Counting l.line l.at l.count l.i

abbrev pub decreases-loop-next : goal.decreases-loop-next
decreases-loop-next l = length l.line - l.i
