-- `reading_bars::is_skipped` meets its contract.
use mathlib.Core.Path.{ap}
use mathlib.Core.Bool.{not}
use Rattle.reading_walk.specs.Walk as walk
use Rattle.reading_bars.proofs.Spans.{span_none, span_there}
use Rattle.reading_bars.proofs.is_skipped.Goals as goal

pub returns-then-span-eq0 : goal.returns-then-span-eq0
unfolding walk.is_skipped
returns-then-span-eq0 c = rw (span_none _ c.if-span-eq0.true)

pub returns : goal.returns
unfolding walk.is_skipped
returns c = rw (span_there _ c.if-span-eq0.false) (ap not c.has_pass.ensures)
