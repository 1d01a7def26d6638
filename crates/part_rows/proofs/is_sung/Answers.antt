-- `part_rows::is_sung` meets its contract.
use mathlib.Core.Path.{sym, ap, ◌∙◌}
use mathlib.Core.Bool.{Bool, not}
use Rattle.laws.proofs.Bools.{by_test}
use Rattle.part_rows.specs.Read.{sounds_at}
use Rattle.part_rows.proofs.Notes.{row_other, row_rest, row_sung}
use Rattle.part_rows.proofs.is_sung.Goals as goal

pub returns-then-not-is_of_voice : goal.returns-then-not-is_of_voice
returns-then-not-is_of_voice c = sym (row_other _ _ (sym c.is_of_voice.ensures ∙ c.if-not-is_of_voice.true))

pub returns : goal.returns
returns c =
    let a = c.args in
    let s = a.store.now in
    ap not c.is_rest.ensures
    ∙ by_test (sounds_at s a.place)
    (λ e. ap (λ (b : Bool). not (not b)) e ∙ sym (row_sung s a.place (sym c.is_of_voice.ensures ∙ c.if-not-is_of_voice.false) e))
    (λ e. ap (λ (b : Bool). not (not b)) e ∙ sym (row_rest s a.place e))
