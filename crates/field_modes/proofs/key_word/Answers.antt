-- `field_modes::key_word` meets its contract, word by word.
use mathlib.Core.Path.{◌≡◌}
use mathlib.Core.Bool.{true, false}
use borrow.Author.Rules.{rules}
use Rattle.reader.specs.Keys.{is_key_word}
use Rattle.field_modes.proofs.Words.{word_here, word_on}
use Rattle.field_modes.proofs.key_word.Goals as goal

pub returns-then-is_key_word : goal.returns-then-is_key_word
returns-then-is_key_word c =
    let stays : is_key_word c.in-Some.word.now ≡ true = search rules in
    word_here _ _ _ _ c.loop-word.invariant c.in-Some.ensures stays

pub loop-word-preserved : goal.loop-word-preserved
loop-word-preserved c =
    let goes : is_key_word c.in-Some.word.now ≡ false = search rules in
    word_on _ _ _ _ c.loop-word.invariant c.in-Some.ensures goes
