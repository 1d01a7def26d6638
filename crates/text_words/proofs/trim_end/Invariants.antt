-- `text_words::trim_end` meets its contract. The loop's invariant: what is left, trimmed, is the text trimmed.
use mathlib.Core.Path.{◌≡◌}
use lib.ListN.{length}
use Rattle.reader.specs.Pieces.{trim_end}
use Rattle.text_words.proofs.trim_end.Given as goal

abbrev pub invariant-loop-last : goal.invariant-loop-last
invariant-loop-last l = trim_end l.front ≡ trim_end l.text

abbrev pub decreases-loop-last : goal.decreases-loop-last
decreases-loop-last l = length l.front
