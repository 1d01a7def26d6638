-- `tally_text::append_reading` meets its contract: the count of parts, and their lines.
use borrow.Author.Rules.{rules}
use Rattle.tally_text.specs.Printed.{parts_text}
use Rattle.tally_text.proofs.Texts.{then}
use Rattle.tally_text.proofs.append_reading.Goals as goal

pub append_lines-requires : goal.append_lines-requires
append_lines-requires c =
    let p = c.requires in
    let n = c.get_u32-n.ensures in
    record { parts_within = rw n p.first_part_in_bounds.2; room = rw n (search rules) }

pub returns : goal.returns
unfolding parts_text
returns c =
    let n = c.get_u32-n.ensures in
    rw (← n) (then _ _ (then _ _ c.append_field-a.ensures.adds c.append_bytes-b.ensures.adds) c.append_lines.ensures)
