-- `text_lines::pass_without` meets its contract.
use Prim.Native.Nat.{◌-◌, ◌≤◌}
use mathlib.Core.Path.{◌≡◌}
use Rattle.laws.specs.Spans.{end_in}
use Rattle.text_lines.specs.Lines.{not_byte}
use Rattle.text_lines.proofs.pass_without.Given as goal

abbrev pub invariant-loop-i : goal.invariant-loop-i
invariant-loop-i l = (l.i ≤ l.end) × (end_in (not_byte l.b) l.text l.i l.end ≡ end_in (not_byte l.b) l.text l.at l.end)

abbrev pub decreases-loop-i : goal.decreases-loop-i
decreases-loop-i l = l.end - l.i
