-- `field_modes::mode_from` meets its contract: the mode stands in the name's word, or in the next one.
use mathlib.Core.Path.{sym, ap, ◌∙◌}
use mathlib.Core.List.{[]}
use borrow.Author.Tests.{eqb-true, eqb-false}
use Rattle.standard.specs.Keys.{mode_names, mode_in}
use Rattle.reader.specs.Keys.{or_lone_m}
use Rattle.field_modes.specs.Modes.{mode_from, mode_at}
use Rattle.field_modes.proofs.Words.{from_left, from_next}
use Rattle.field_modes.proofs.mode_from.Goals as goal

pub returns-then-not-is_empty : goal.returns-then-not-is_empty
returns-then-not-is_empty c = c.mode_at.ensures ∙ from_left _ _ (eqb-false _ _ (sym c.is_empty.ensures ∙ c.if-not-is_empty.true))

pub returns-in-Some : goal.returns-in-Some
unfolding mode_from
returns-in-Some c =
    let empty = eqb-true _ _ (sym c.is_empty.ensures ∙ c.if-not-is_empty.false) in
    c.mode_at-in-Some.ensures ∙ sym (from_next _ _ empty ∙ ap (mode_from []) c.in-Some.ensures.words)

pub returns-in-None : goal.returns-in-None
unfolding mode_from mode_at or_lone_m mode_in mode_names
returns-in-None c =
    let empty = eqb-true _ _ (sym c.is_empty.ensures ∙ c.if-not-is_empty.false) in
    sym (from_next _ _ empty ∙ ap (mode_from []) c.in-None.ensures)
