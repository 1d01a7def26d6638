-- `scan_voices::known_voice` meets its contract: one item more.
use mathlib.Core.Path.{refl}
use Rattle.scan_table.specs.Rows.{item_in, item_as}
use Rattle.scan_states.proofs.Items.{item_added}
use Rattle.scan_voices.proofs.known_voice.Goals as goal

pub returns : goal.returns
unfolding item_in item_as
returns c = record {
  moved = rw c.add_item.ensures.state (record { lines = refl; voices = refl; part = refl; items = refl });
  items = λ text. item_added text _ _ _ _ _ _ (c.add_item.ensures.items text) c.of.ensures refl;
}
