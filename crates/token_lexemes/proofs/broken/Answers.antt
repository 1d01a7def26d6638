-- `token_lexemes::broken` meets its contract.
use Rattle.token_lexemes.proofs.Closed.{too_many, not_too_many}
use Rattle.token_lexemes.proofs.Numbered.{broken_numbered}
use Rattle.token_lexemes.proofs.broken.Goals as goal

pub returns-then-count-gt255 : goal.returns-then-count-gt255
returns-then-count-gt255 c =
    let a = c.args in
    record { token = too_many a.line.now a.at a.b c.run_end-end.result a.up c.requires c.run_end-end.ensures c.if-count-gt255.true; number = broken_numbered _ _ _ }

pub returns : goal.returns
returns c =
    let a = c.args in
    record { token = not_too_many a.line.now a.at a.b c.run_end-end.result a.up c.requires c.run_end-end.ensures c.if-count-gt255.false; number = broken_numbered _ _ _ }
