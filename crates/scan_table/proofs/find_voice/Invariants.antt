-- `scan_table::find_voice` meets its contract. The invariant: what is to come of the voices gives the answer.
use Prim.Native.Nat.{◌+◌}
use mathlib.Core.Path.{◌≡◌}
use lib.ListN.{drop}
use Rattle.laws.specs.Lists.{index_of}
use Rattle.scan_table.specs.Rows.{voices_in}
use Rattle.scan_table.proofs.find_voice.Given as goal

abbrev pub invariant-loop-i : goal.invariant-loop-i
invariant-loop-i l = l.i + index_of l.id (drop l.i (voices_in l.text l.scratch l.n)) ≡ index_of l.id (voices_in l.text l.scratch l.n)
