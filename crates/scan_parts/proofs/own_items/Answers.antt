-- `scan_parts::own_items` meets its contract: all items where there is one part, else those that are gathered.
use mathlib.Core.Path.{refl}
use borrow.Author.Rules.{rules}
use Rattle.scan_parts.proofs.Gathering.{own_behind, own_all}
use Rattle.scan_parts.proofs.own_items.Goals as goal

pub returns-then-parts-eq1 : goal.returns-then-parts-eq1
returns-then-parts-eq1 c = own_all _ _ _ _ (search rules)

pub returns : goal.returns
returns c = own_behind _ _ _ _ _ _ _ refl (search rules) c.gather_items-count.ensures
