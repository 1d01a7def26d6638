-- `part_items::on_header_key` meets its contract.
use Rattle.field_keys.specs.Passed.{key_as}
use Rattle.part_items.proofs.Each.{simulates_item_as, key_in_header_simulates}
use Rattle.part_items.proofs.on_header_key.Goals as goal

pub returns : goal.returns
returns c =
    let a = c.args in
    λ ed t s. simulates_item_as c.set_key.ensures (key_in_header_simulates ed (key_as a.header))
