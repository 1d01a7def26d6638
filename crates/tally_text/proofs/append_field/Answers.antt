-- `tally_text::append_field` meets its contract: the word, and the number behind it.
use native.Mathlib.Omega.{arith}
use Rattle.tally_text.specs.Printed.{field}
use Rattle.tally_text.proofs.Texts.{then, field_most}
use Rattle.tally_text.proofs.append_field.Goals as goal

pub returns : goal.returns
unfolding field
returns c =
    let a = c.args in
    let t = then _ _ c.append_bytes-behind.ensures.adds c.append_decimal.ensures in
    record { adds = t; upper_bound = omega (arith, t.ends, field_most a.word.now a.n) }
