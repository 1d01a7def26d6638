-- `scan_music::add_music_line` meets its contract: one item more.
use mathlib.Core.Path.{refl}
use Rattle.scan_table.specs.Rows.{item_in, item_as}
use Rattle.scan_music.proofs.add_music_line.Goals as goal

pub returns : goal.returns
unfolding item_in item_as
returns c = record {
  state = rw (c.add_item.ensures.state, c.with_opened.ensures, c.with_place.ensures) refl;
  items = λ text. rw (← c.with_opened.ensures, ← c.with_place.ensures) (rw c.of.ensures at (c.add_item.ensures.items text));
}
