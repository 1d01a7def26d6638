-- `reading_bars::closes` meets its contract.
use borrow.Author.Tests.{eq-eqb, ne_eqb}
use Rattle.reading_walk.specs.Walk as walk
use Rattle.reading_bars.proofs.closes.Goals as goal

pub returns-then-right-eq2 : goal.returns-then-right-eq2
unfolding walk.closes
returns-then-right-eq2 c = rw (eq-eqb _ _ c.if-right-eq2.true)

pub returns-else-right-eq2 : goal.returns-else-right-eq2
unfolding walk.closes
returns-else-right-eq2 c = rw (ne_eqb _ _ c.if-right-eq2.false)
