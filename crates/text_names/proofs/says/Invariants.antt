-- `text_names::says` meets its contract. The loop's invariant: what is left of the comparison from i on is the whole.
use mathlib.Core.Path.{◌≡◌}
use mathlib.Core.List.{map}
use lib.ListN.{drop}
use Rattle.laws.specs.Lists.{starts_with}
use Rattle.standard.specs.Bytes.{lower}
use Rattle.text_names.proofs.says.Given as goal

abbrev pub invariant-loop-i : goal.invariant-loop-i
invariant-loop-i l = starts_with (drop l.i l.name) (drop l.i (map lower l.text)) ≡ starts_with l.name (map lower l.text)
