-- `reading_whole::is_whole` meets its contract: the parts from i on say what the reading says.
use Prim.Native.Nat.{◌-◌, ◌≤◌}
use mathlib.Core.Path.{◌≡◌}
use lib.ListN.{length}
use Rattle.reading_whole.specs.Whole.{whole_from, is_whole}
use Rattle.reading_whole.proofs.is_whole.Given as goal

abbrev pub invariant-loop-i : goal.invariant-loop-i
invariant-loop-i l = (l.at ≤ length l.reading) × (whole_from l.reading l.at (l.i-end - l.i) ≡ is_whole l.reading)
