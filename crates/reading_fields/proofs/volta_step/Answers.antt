-- `reading_fields::volta_step` meets its contract.
use borrow.Author.Tests.{eq-eqb, ne_eqb}
use Rattle.reading_fields.specs.Codes.{volta_step}
use Rattle.reading_fields.proofs.volta_step.Goals as goal

pub returns-then-volta-eq0 : goal.returns-then-volta-eq0
unfolding volta_step
returns-then-volta-eq0 c = rw (c.in-Inside.is, eq-eqb _ _ c.if-volta-eq0.true)

pub returns-then-volta-eq2 : goal.returns-then-volta-eq2
unfolding volta_step
returns-then-volta-eq2 c = rw (c.in-Inside.is, ne_eqb _ _ c.if-volta-eq0.false, eq-eqb _ _ c.if-volta-eq2.true)

pub returns-then-volta-eq1 : goal.returns-then-volta-eq1
unfolding volta_step
returns-then-volta-eq1 c = rw (c.in-Outside.is, eq-eqb _ _ c.if-volta-eq1.true)

pub returns-then-volta-eq2-2 : goal.returns-then-volta-eq2-2
unfolding volta_step
returns-then-volta-eq2-2 c = rw (c.in-Outside.is, ne_eqb _ _ c.if-volta-eq1.false, eq-eqb _ _ c.if-volta-eq2-2.true)

pub returns-else-volta-eq2 : goal.returns-else-volta-eq2
unfolding volta_step
returns-else-volta-eq2 c = rw (c.in-Inside.is, ne_eqb _ _ c.if-volta-eq0.false, ne_eqb _ _ c.if-volta-eq2.false)

pub returns-else-volta-eq2-2 : goal.returns-else-volta-eq2-2
unfolding volta_step
returns-else-volta-eq2-2 c = rw (c.in-Outside.is, ne_eqb _ _ c.if-volta-eq1.false, ne_eqb _ _ c.if-volta-eq2-2.false)

pub returns-in-Wrong : goal.returns-in-Wrong
unfolding volta_step
returns-in-Wrong c = rw c.in-Wrong.is
