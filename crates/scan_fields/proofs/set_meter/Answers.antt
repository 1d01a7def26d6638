-- `scan_fields::set_meter` meets its contract.
use mathlib.Core.Path.{refl, ◌∙◌}
use native.Mathlib.Omega.{arith}
use Rattle.reader.specs.Scan.{act}
use Rattle.scan_table.specs.Rows.{item_in, item_as}
use Rattle.scan_states.proofs.Items.{stays}
use Rattle.scan_fields.proofs.set_meter.Goals as goal

pub returns-then-st : goal.returns-then-st
unfolding act
returns-then-st c =
    λ text. rw (c.next_line.ensures, c.if-st.true) (record { is = stays _ _; follows = (refl, (omega arith, (omega arith, omega arith))) })

pub returns : goal.returns
unfolding act item_in item_as
returns c =
    λ text. record {
      is = rw c.of.ensures at (c.add_item.ensures.items text) ∙ rw c.if-st.false refl;
      follows = rw c.add_item.ensures.state (refl, (omega arith, (omega arith, omega arith)));
    }
