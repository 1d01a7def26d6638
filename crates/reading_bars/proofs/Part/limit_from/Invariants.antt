-- `reading_bars::Part::limit_from` meets its contract: so far the measures from `start` to just before i are seen.
use mathlib.Core.Path.{◌≡◌}
use Rattle.reading_walk.specs.Walk as walk
use Rattle.reading_walk.specs.Spans.{open_before, bars_of}
use Rattle.reading_walk.proofs.Bars.{top_from}
use Rattle.reading_bars.specs.Bars.{span_of}
use Rattle.reading_bars.proofs.Limits.{Seen}
use Rattle.reading_bars.proofs.Part.limit_from.Given as goal

abbrev pub invariant-loop-i : goal.invariant-loop-i
invariant-loop-i l =
    (span_of l.span ≡ open_before l.self.reading.now l.self.at l.i) × Seen (walk.limit (bars_of l.self.reading.now l.self.at)) l.start l.i l.limit.most l.limit.end (top_from l.self.reading.now l.self.at l.i)
