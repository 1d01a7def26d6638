-- `reading_bars::span_at` meets its contract.
use mathlib.Core.Path.{◌∙◌}
use borrow.Author.Tests.{eq-eqb, ne_eqb}
use Rattle.reading_walk.specs.Spans.{span_at}
use Rattle.reading_bars.proofs.Spans.{span_some}
use Rattle.reading_bars.proofs.span_at.Goals as goal

pub returns-then-volta-eq1 : goal.returns-then-volta-eq1
unfolding span_at
returns-then-volta-eq1 c = span_some _ ∙ rw (eq-eqb _ _ c.if-volta-eq1.true)

pub returns-then-volta-eq3 : goal.returns-then-volta-eq3
unfolding span_at
returns-then-volta-eq3 c = span_some _ ∙ rw (ne_eqb _ _ c.if-volta-eq1.false, eq-eqb _ _ c.if-volta-eq3.true)

pub returns : goal.returns
unfolding span_at
returns c = rw (ne_eqb _ _ c.if-volta-eq1.false, ne_eqb _ _ c.if-volta-eq3.false)
