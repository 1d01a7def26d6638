-- `field_modal::modal_field` meets its contract, by what its words come to.
use mathlib.Core.Path.{ap, ◌∙◌}
use Rattle.reader.specs.Keys.{is_beyond}
use Rattle.reader.specs.Fields.{key_refusal}
use Rattle.field_modal.proofs.Refusing.{passed_on}
use Rattle.field_modal.proofs.modal_field.Goals as goal

pub returns-in_err-first_met : goal.returns-in_err-first_met
unfolding key_refusal
returns-in_err-first_met c =
    let beyond = c.is_beyond.ensures ∙ ap is_beyond c.modal_key-key.ensures in
    passed_on c.args.value.now _ _ c.from_residual.ensures (rw beyond at c.in_err-first_met.ensures)

pub returns : goal.returns
unfolding key_refusal
returns c =
    let beyond = c.is_beyond.ensures ∙ ap is_beyond c.modal_key-key.ensures in
    (rw beyond at c.in_ok-first_met.ensures, c.modal_key-key.ensures)
