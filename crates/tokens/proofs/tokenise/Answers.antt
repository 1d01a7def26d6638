-- `tokens::tokenise` meets its contract.
use Rattle.tokens.specs.Tokens.{valued_for}
use Rattle.tokens.proofs.tokenise.Goals as goal

pub returns-in_default : goal.returns-in_default
returns-in_default c = rw c.valued.ensures

pub returns : goal.returns
unfolding valued_for
returns c = rw (c.in-Note.is, c.written.ensures)
