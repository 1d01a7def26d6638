-- `field_keys::parse_key` meets its contract, word by word.
use mathlib.Core.Path.{sym, ap, ◌∙◌}
use Rattle.field_keys.specs.Passed.{key_by}
use Rattle.field_keys.proofs.KeyTexts.{key_of_words}
use Rattle.field_keys.proofs.Walks.{kept, left_out, walk_on}
use Rattle.field_keys.proofs.parse_key.Goals as goal

pub loop-word-preserved-then-is_key_word : goal.loop-word-preserved-then-is_key_word
loop-word-preserved-then-is_key_word c =
    walk_on _ _ _ _ _ _ c.in-Some.ensures (c.pass_word-passed.ensures ∙ kept _ _ (sym c.is_key_word.ensures ∙ c.if-is_key_word.true)) c.loop-word.invariant

pub loop-word-preserved : goal.loop-word-preserved
loop-word-preserved c = walk_on _ _ _ _ _ _ c.in-Some.ensures (left_out _ _ (sym c.is_key_word.ensures ∙ c.if-is_key_word.false)) c.loop-word.invariant

pub returns : goal.returns
returns c = c.key_by.ensures ∙ ap key_by (rw c.in_default.ensures at c.loop-word.invariant) ∙ key_of_words c.args.value.now
