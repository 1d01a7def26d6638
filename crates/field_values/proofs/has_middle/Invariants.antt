-- `field_values::has_middle` meets its contract. The loop's invariant: a word that is left begins so just where a word of the value does.
use mathlib.Core.Path.{◌≡◌}
use lib.ListN.{length}
use Rattle.reader.specs.Fields.{middle_word}
use Rattle.field_values.proofs.has_middle.Given as goal

abbrev pub invariant-loop-word : goal.invariant-loop-word
invariant-loop-word l = middle_word l.rest ≡ middle_word l.value

abbrev pub decreases-loop-word : goal.decreases-loop-word
decreases-loop-word l = length l.rest
