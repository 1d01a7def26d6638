-- `text_lines::clean_end` meets its contract.
use borrow.Author.Rules.{rules}
use native.Mathlib.Omega.{arith}
use Rattle.laws.proofs.Parts.{end_in_le}
use Rattle.text_lines.specs.Lines.{not_byte}
use Rattle.text_lines.proofs.Cleaning.{clean_is}
use Rattle.text_lines.proofs.clean_end.Goals as goal

pub trim_end-requires : goal.trim_end-requires
trim_end-requires c =
    let a = c.args in
    let e = c.find_byte-cut.ensures in
    (omega (arith, e), omega (arith, e, end_in_le (not_byte 37) a.text.now a.from a.to (search rules)))

pub returns : goal.returns
returns c =
    let a = c.args in
    clean_is a.text.now a.from a.to _ _ (search rules) c.find_byte-cut.ensures c.trim_end.ensures
