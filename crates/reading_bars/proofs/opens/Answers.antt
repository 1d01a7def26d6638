-- `reading_bars::opens` meets its contract.
use borrow.Author.Tests.{eq-eqb, ne_eqb}
use Rattle.reading_walk.specs.Walk as walk
use Rattle.reading_bars.proofs.opens.Goals as goal

pub returns-then-left-eq1 : goal.returns-then-left-eq1
unfolding walk.opens
returns-then-left-eq1 c = rw (eq-eqb _ _ c.if-left-eq1.true)

pub returns-else-left-eq1 : goal.returns-else-left-eq1
unfolding walk.opens
returns-else-left-eq1 c = rw (ne_eqb _ _ c.if-left-eq1.false)
