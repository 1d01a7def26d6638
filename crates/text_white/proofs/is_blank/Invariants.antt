-- `text_white::is_blank` meets its contract. The loop's invariant: the reading from here over what is left ends as that of the whole.
use mathlib.Core.Path.{◌≡◌}
use lib.ListN.{drop}
use Rattle.laws.specs.Lists.{foldl}
use Rattle.reader.specs.Text.{white, white_step}
use Rattle.text_white.specs.States.{as_white}
use Rattle.text_white.proofs.is_blank.Given as goal

abbrev pub invariant-loop-b : goal.invariant-loop-b
invariant-loop-b l = foldl white_step (as_white l.q) (drop l.b-index l.text) ≡ foldl white_step white l.text
