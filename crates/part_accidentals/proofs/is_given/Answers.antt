-- `part_accidentals::is_given` meets its contract: there is no place, or the slot says it.
use mathlib.Core.Path.{sym, ap, ◌∙◌}
use borrow.Author.Tests.{eq-eqb, ne_eqb}
use lib.Dec.{eqb}
use lib.ListN.{get_or}
use Rattle.laws.proofs.Bools.{cond_true, cond_false}
use Rattle.part_scopes.specs.Scopes.{is_given}
use Rattle.part_accidentals.proofs.is_given.Goals as goal

pub returns-then-place-eq0 : goal.returns-then-place-eq0
unfolding is_given
returns-then-place-eq0 c = sym (cond_true _ _ _ (eq-eqb _ 0 c.if-place-eq0.true))

pub returns : goal.returns
unfolding is_given
returns c =
    let s = c.args.store.now in
    ap (λ k. eqb (get_or s k 0) 1) c.slot_at-slot.ensures ∙ sym (cond_false _ _ _ (ne_eqb _ 0 c.if-place-eq0.false))
