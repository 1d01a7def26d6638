-- `field_modes::key_word` meets its contract. The loop's invariant: what is left stands at the value's end, and the words of the key text are those that are left.
use lib.ListN.{length}
use Rattle.field_modes.proofs.Words.{Seeking}
use Rattle.field_modes.proofs.key_word.Given as goal

abbrev pub invariant-loop-word : goal.invariant-loop-word
invariant-loop-word l = Seeking l.value l.rest

abbrev pub decreases-loop-word : goal.decreases-loop-word
decreases-loop-word l = length l.rest
