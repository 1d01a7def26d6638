-- `tally_text::append_bytes` meets its contract.
use mathlib.Core.Path.{refl}
use Rattle.tally_text.proofs.Texts.{copied}
use Rattle.tally_text.proofs.append_bytes.Goals as goal

pub returns : goal.returns
returns c =
    let a = c.args in
    record { adds = copied a.out.now a.src.now _ a.at c.requires c.copy.ensures; value = refl }
