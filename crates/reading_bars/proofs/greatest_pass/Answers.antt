-- `reading_bars::greatest_pass` meets its contract.
use mathlib.Core.Path.{◌∙◌}
use Rattle.reading_walk.specs.Walk as walk
use Rattle.reading_bars.proofs.Spans.{span_none, span_there}
use Rattle.reading_bars.proofs.Passes.{greatest_of_low}
use Rattle.reading_bars.proofs.greatest_pass.Goals as goal

pub returns-then-span-eq0 : goal.returns-then-span-eq0
unfolding walk.top_of
returns-then-span-eq0 c = rw (span_none _ c.if-span-eq0.true)

pub returns : goal.returns
unfolding walk.top_of
returns c = rw (span_there _ c.if-span-eq0.false) (c.greatest_of.ensures ∙ greatest_of_low _)
