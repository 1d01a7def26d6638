-- `scan_fields::set_key` meets its contract: one item more.
use mathlib.Core.Path.{refl, ◌∙◌}
use native.Mathlib.Omega.{arith}
use Rattle.reader.specs.Scan.{act, key_change}
use Rattle.scan_table.specs.Rows.{item_in, item_as, items_in}
use Rattle.scan_states.proofs.Items.{flag_is, item_added, one_item}
use Rattle.scan_fields.proofs.set_key.Goals as goal

pub returns-then-st : goal.returns-then-st
unfolding act item_in item_as
returns-then-st c =
    let a = c.args in
    λ text. record {
      is = rw c.if-st.true (item_added text _ _ _ _ _ _ (c.add_item.ensures.items text) c.of.ensures refl);
      follows = rw c.add_item.ensures.state (refl, (omega arith, (omega arith, omega arith)));
    }

pub returns : goal.returns
unfolding act item_in item_as
returns c =
    let a = c.args in
    λ text. record {
      is = rw (c.of-2.ensures, c.if-st.false) at (c.add_item-2.ensures.items text)
          ∙ rw c.if-st.false (one_item (items_in text a.scratch.now a.st.items) _ _ _ (λ i. (a.st.part, key_change (record { fifths = a.k.fifths; minor = flag_is _ _ c.from.ensures i }))));
      follows = rw c.add_item-2.ensures.state (refl, (omega arith, (omega arith, omega arith)));
    }
