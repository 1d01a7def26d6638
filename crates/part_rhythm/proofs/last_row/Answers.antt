-- `part_rhythm::last_row` meets its contract.
use borrow.Author.Tests.{eq-eqb, ne_eqb}
use Rattle.part_rhythm.specs.Rhythm.{row_of}
use Rattle.part_rhythm.proofs.last_row.Goals as goal

pub returns-then-place-eq0 : goal.returns-then-place-eq0
unfolding row_of
returns-then-place-eq0 c = rw (eq-eqb _ 0 c.if-place-eq0.true)

pub returns : goal.returns
unfolding row_of
returns c = rw (ne_eqb _ 0 c.if-place-eq0.false)
