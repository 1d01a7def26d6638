-- `text_utf8::reads_utf8` meets its contract. The loop's invariant: the reading from here over what is left ends as that of the whole.
use mathlib.Core.Path.{◌≡◌}
use lib.ListN.{drop}
use Rattle.laws.specs.Lists.{foldl}
use Rattle.reader.specs.Text.{between, utf8_step}
use Rattle.text_utf8.specs.States.{as_utf8}
use Rattle.text_utf8.proofs.reads_utf8.Given as goal

abbrev pub invariant-loop-b : goal.invariant-loop-b
invariant-loop-b l = foldl utf8_step (as_utf8 l.q) (drop l.b-index l.text) ≡ foldl utf8_step between l.text
