-- `scan_parts::gather_items` meets its contract: so far those of the part among the first i items are gathered.
use Rattle.scan_parts.proofs.Gathering.{Gathering}
use Rattle.scan_parts.proofs.gather_items.Given as goal

abbrev pub invariant-loop-i : goal.invariant-loop-i
invariant-loop-i l = Gathering l.text l.initial.scratch l.n l.part l.scratch l.i l.count
