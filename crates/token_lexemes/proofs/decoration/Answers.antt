-- `token_lexemes::decoration` meets its contract.
use Rattle.reader.specs.Token.{decoration, skipped, taken}
use Rattle.token_lexemes.specs.Lexemes.{lexeme_for}
use Rattle.token_lexemes.proofs.Closed.{closed, unclosed}
use Rattle.token_lexemes.proofs.decoration.Goals as goal

pub returns-then-close-line : goal.returns-then-close-line
unfolding lexeme_for
returns-then-close-line c =
    let a = c.args in
    closed a.line.now a.at a.b c.find-close.result c.requires c.find-close.ensures decoration (taken skipped 1) c.if-close-line.true

pub returns : goal.returns
unfolding lexeme_for
returns c =
    let a = c.args in
    unclosed a.line.now a.at a.b c.find-close.result c.requires c.find-close.ensures decoration (taken skipped 1) c.if-close-line.false
