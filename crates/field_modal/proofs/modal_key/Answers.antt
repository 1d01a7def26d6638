-- `field_modal::modal_key` meets its contract, by the first word of the key text.
use mathlib.Core.Path.{sym, ◌∙◌}
use Rattle.standard.specs.Keys.{plain_key}
use Rattle.field_modal.proofs.Texts.{modal_value, modal_none}
use Rattle.field_modal.proofs.modal_key.Goals as goal

pub returns-in-None : goal.returns-in-None
unfolding plain_key
returns-in-None c = sym (modal_none _ c.in-None.ensures)

pub returns-in-Some : goal.returns-in-Some
returns-in-Some c = c.word_key.ensures ∙ sym (modal_value _ _ _ c.in-Some.ensures.words)
