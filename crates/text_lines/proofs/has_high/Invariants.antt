-- `text_lines::has_high` meets its contract. The loop's invariant: the greatest byte so far or what is left is above 127 where the line is.
use mathlib.Core.Path.{◌≡◌}
use mathlib.Core.Bool.{◌||◌}
use lib.Dec.{ltb}
use lib.ListN.{drop}
use Rattle.reader.specs.Text.{has_high}
use Rattle.text_lines.proofs.has_high.Given as goal

abbrev pub invariant-loop-b : goal.invariant-loop-b
invariant-loop-b l = (ltb 127 l.most || has_high (drop l.b-index l.line)) ≡ has_high l.line
