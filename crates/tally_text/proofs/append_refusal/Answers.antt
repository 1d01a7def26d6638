-- `tally_text::append_refusal` meets its contract.
use Rattle.tally_text.specs.Printed.{refused_text}
use Rattle.tally_text.proofs.Texts.{then}
use Rattle.tally_text.proofs.append_refusal.Goals as goal

pub returns : goal.returns
unfolding refused_text
returns c =
    rw (← c.from.ensures, ← c.from-2.ensures)
    (then _ _ (then _ _ c.append_field-a.ensures.adds c.append_field-b.ensures.adds) c.append_bytes.ensures.adds)
