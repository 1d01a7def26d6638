-- `text_lines::line_end` meets its contract.
use borrow.Author.Rules.{rules}
use Rattle.text_lines.proofs.LineEnds.{row_fed, row_last}
use Rattle.text_lines.proofs.line_end.Goals as goal

pub returns-then-i-text : goal.returns-then-i-text
returns-then-i-text c =
    let a = c.args in
    row_fed a.text.now a.at _ c.find_byte-i.ensures (search rules) c.if-i-text.true

pub returns : goal.returns
returns c =
    let a = c.args in
    row_last a.text.now a.at _ c.find_byte-i.ensures (search rules) c.if-i-text.false
