-- `token_symbols::default_normal` meets its contract, by the edition.
use Rattle.token_symbols.proofs.default_normal.Goals as goal

pub returns-in-First : goal.returns-in-First
returns-in-First c = rw c.in-First.is c.usual_normal.ensures

pub returns-in-Second : goal.returns-in-Second
returns-in-Second c = rw c.in-Second.is c.standard_normal.ensures
