-- `field_keys::pass_word` meets its contract. The loop's invariant: what is left of the word, after what was passed, gives what the word gives.
use mathlib.Core.Path.{◌≡◌}
use lib.ListN.{drop}
use Rattle.field_keys.specs.Passed.{pass_text, pass_word}
use Rattle.field_keys.proofs.pass_word.Given as goal

abbrev pub invariant-loop-k : goal.invariant-loop-k
invariant-loop-k l = pass_text l.passed (drop l.k l.word) ≡ pass_word l.fn.p l.word
