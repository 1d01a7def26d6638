-- `tally_text::append_line` meets its contract: field after field, and the line feed.
use Rattle.tally_text.specs.Printed.{line}
use Rattle.tally_text.proofs.Texts.{then}
use Rattle.tally_text.proofs.append_line.Goals as goal

pub returns : goal.returns
unfolding line
returns c =
    then _ _
    (then _ _
    (then _ _
    (then _ _
    (then _ _ c.append_field-a.ensures.adds c.append_field-b.ensures.adds)
    c.append_field-d.ensures.adds)
    c.append_field-e.ensures.adds)
    c.append_field-f.ensures.adds)
    c.append_bytes.ensures.adds
