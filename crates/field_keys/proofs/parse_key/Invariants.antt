-- `field_keys::parse_key` meets its contract. The loop's invariant: the words that are left, after what was passed, give what all words give.
use mathlib.Core.Path.{◌≡◌}
use lib.ListN.{length}
use Rattle.laws.specs.Lists.{foldl}
use Rattle.reader.specs.Pieces.{field_words}
use Rattle.field_keys.specs.Passed.{pass_kept, unpassed}
use Rattle.field_keys.proofs.parse_key.Given as goal

abbrev pub invariant-loop-word : goal.invariant-loop-word
invariant-loop-word l = foldl pass_kept l.passed (field_words l.rest) ≡ foldl pass_kept unpassed (field_words l.value)

abbrev pub decreases-loop-word : goal.decreases-loop-word
decreases-loop-word l = length l.rest
