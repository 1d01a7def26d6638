-- `scan_states::add_item` meets its contract: the row is written behind the others, and neither the voices nor those are disturbed.
use Rattle.scan_states.proofs.Items.{added}
use borrow.Author.Rules.{rules}
use Rattle.scan_states.proofs.add_item.Goals as goal

pub returns : goal.returns
returns c =
    let a = c.args in
    let s = a.scratch.now in
    record {
      state = rw c.next_line.ensures;
      items = λ text. rw c.next_line.ensures (added text s _ a.st a.row c.put_item.ensures (search rules) (search rules) (search rules) (search rules) (search rules));
    }
