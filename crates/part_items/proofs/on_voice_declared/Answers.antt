-- `part_items::on_voice_declared` meets its contract.
use mathlib.Core.Path.{ap, ◌∙◌}
use Rattle.standard.specs.Keys.{Key}
use Rattle.field_keys.specs.Passed.{key_as}
use Rattle.part_items.specs.Items.{keyed_as}
use Rattle.part_items.proofs.Each.{simulates_item_as, declared_simulates}
use Rattle.part_items.proofs.on_voice_declared.Goals as goal

pub returns : goal.returns
returns c =
    let a = c.args in
    λ t s. simulates_item_as (c.set_key.ensures ∙ ap (λ (k : Key). keyed_as a.r k) c.first_key.ensures) (declared_simulates a.edition (key_as a.header) a.in_header)
