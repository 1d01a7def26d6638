-- `tally_counts::count_sounded` meets its contract: so far the notes below i are counted.
use Prim.Native.Nat.{◌≤◌}
use mathlib.Core.Path.{◌≡◌}
use Rattle.tally_counts.specs.Counted.{sounded_in}
use Rattle.tally_counts.proofs.count_sounded.Given as goal

abbrev pub invariant-loop-i : goal.invariant-loop-i
invariant-loop-i l = (l.sounded ≤ l.i) × (l.sounded ≡ sounded_in l.reading l.at l.i)
