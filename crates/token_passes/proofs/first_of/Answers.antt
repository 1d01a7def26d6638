-- `token_passes::first_of` meets its contract.
use borrow.Author.Tests.{eq-eqb, ne_eqb}
use Rattle.token_passes.proofs.first_of.Goals as goal

pub returns-then-first-eq0 : goal.returns-then-first-eq0
returns-then-first-eq0 c = rw (eq-eqb _ 0 c.if-first-eq0.true)

pub returns : goal.returns
returns c = rw (ne_eqb _ 0 c.if-first-eq0.false)
