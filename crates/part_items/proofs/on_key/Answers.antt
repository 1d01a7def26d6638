-- `part_items::on_key` meets its contract.
use Rattle.field_keys.specs.Passed.{key_as}
use Rattle.part_items.proofs.Each.{simulates_item_as, key_none, key_some}
use native.Mathlib.Omega.{arith}
use Rattle.part_items.proofs.on_key.Goals as goal

pub returns-then-counts-eq0 : goal.returns-then-counts-eq0
returns-then-counts-eq0 c =
    let a = c.args in
    λ ed. simulates_item_as c.hear.ensures (key_none ed c.requires.0 (key_as a.header) (key_as a.key) c.if-counts-eq0.true)

pub returns : goal.returns
returns c =
    λ ed. simulates_item_as c.hear-2.ensures
    (key_some ed c.requires.0 (key_as c.args.header) (key_as c.args.key) (omega (arith, c.if-counts-eq0.false)) c.requires.1 _ c.set_key_mark.ensures)
