-- `scan_states::lyric_line` meets its contract.
use mathlib.Core.Path.{refl, ◌∙◌}
use native.Mathlib.Omega.{arith}
use Rattle.reader.specs.Scan.{act, lyric_line}
use Rattle.scan_table.specs.Rows.{item_in, item_as, items_in}
use Rattle.scan_states.proofs.Items.{flag_is, stays, one_item, words}
use Rattle.scan_states.proofs.lyric_line.Goals as goal

pub returns-then-st : goal.returns-then-st
unfolding act
returns-then-st c =
    λ text. rw (c.next_line.ensures, c.if-st.true)
    (record { is = stays _ _; follows = (refl, (omega arith, (omega arith, omega arith))) })

pub returns : goal.returns
unfolding act item_in item_as
returns c =
    let a = c.args in
    λ text. record {
      is = c.add_item.ensures.items text ∙ rw (c.of.ensures, c.if-st.false) (one_item (items_in text a.scratch.now a.st.items) _ _ _ (λ i. (a.st.part, lyric_line (flag_is _ _ c.from.ensures i) (words text a.from a.end i))));
      follows = rw c.add_item.ensures.state (refl, (omega arith, (omega arith, omega arith)));
    }
