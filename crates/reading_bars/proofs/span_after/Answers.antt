-- `reading_bars::span_after` meets its contract.
use mathlib.Core.Path.{refl, ◌∙◌}
use borrow.Author.Tests.{eq-eqb, ne_eqb}
use Rattle.reading_walk.specs.Spans.{span_after}
use Rattle.reading_bars.proofs.Spans.{span_some, span_none}
use Rattle.reading_bars.proofs.span_after.Goals as goal

pub returns-then-volta-eq1 : goal.returns-then-volta-eq1
unfolding span_after
returns-then-volta-eq1 c = span_some _ ∙ rw (eq-eqb _ _ c.if-volta-eq1.true)

pub returns-then-volta-eq0 : goal.returns-then-volta-eq0
unfolding span_after
returns-then-volta-eq0 c = rw (ne_eqb _ _ c.if-volta-eq1.false, eq-eqb _ _ c.if-volta-eq0.true)

pub returns : goal.returns
unfolding span_after
returns c = span_none _ refl ∙ rw (ne_eqb _ _ c.if-volta-eq1.false, ne_eqb _ _ c.if-volta-eq0.false)
