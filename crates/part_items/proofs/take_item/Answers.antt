-- `part_items::take_item` meets its contract.
use Prim.Native.Nat.{ℕ}
use mathlib.Core.Path.{sym, subst}
use Rattle.field_keys.specs.Passed.{key_as}
use Rattle.part_items.specs.Items.{Ready}
use Rattle.part_items.proofs.Turns.{taken_as, taken_other}
use Rattle.part_items.proofs.take_item.Goals as goal

pub returns-then-row-part : goal.returns-then-row-part
returns-then-row-part c =
    let a = c.args in
    taken_other _ a.text.now a.t (key_as a.header) a.part a.i a.store.now a.r _ c.get_item-row.ensures c.if-row-part.true

pub on_item-requires : goal.on_item-requires
on_item-requires c =
    let a = c.args in
    (subst (λ (p : ℕ). Ready a.text.now a.t p a.i a.store.now a.r) (sym c.if-row-part.false) c.requires, c.get_item-row.ensures)

pub returns : goal.returns
returns c =
    taken_as _ c.if-row-part.false c.on_item.ensures
