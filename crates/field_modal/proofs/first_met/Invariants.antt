-- `field_modal::first_met` meets its contract. The loop's invariant: what is refused first among the words that are left is what is refused first.
use mathlib.Core.Path.{◌≡◌}
use lib.ListN.{length}
use Rattle.reader.specs.Pieces.{field_words}
use Rattle.reader.specs.Fields.{first_met}
use Rattle.field_modal.proofs.first_met.Given as goal

abbrev pub invariant-loop-word : goal.invariant-loop-word
invariant-loop-word l = first_met l.beyond (field_words l.rest) ≡ first_met l.beyond (field_words l.value)

abbrev pub decreases-loop-word : goal.decreases-loop-word
decreases-loop-word l = length l.rest
