-- `field_keys::is_key_word` meets its contract, by its tests.
use mathlib.Core.Path.{sym, ◌∙◌}
use Rattle.reader.specs.Keys.{is_key_word, clefs}
use Rattle.field_keys.proofs.Walks.{any_byte}
use Rattle.field_keys.proofs.is_key_word.Goals as goal

pub returns-then-not-contains : goal.returns-then-not-contains
unfolding is_key_word clefs
returns-then-not-contains c =
    let no = sym (c.contains.ensures.value ∙ any_byte 61 c.args.word.now) ∙ c.if-not-contains.true in
    rw (no, c.is_one_of.ensures)

pub returns-else-not-contains : goal.returns-else-not-contains
unfolding is_key_word
returns-else-not-contains c =
    let yes = sym (c.contains.ensures.value ∙ any_byte 61 c.args.word.now) ∙ c.if-not-contains.false in
    rw (yes, c.if-not-contains.false)
