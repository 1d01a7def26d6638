-- `reading_bars::greatest_of` meets its contract: so far the passes are halved `pass` times.
use Rattle.reading_bars.proofs.Passes.{Halved}
use Rattle.reading_bars.proofs.greatest_of.Given as goal

abbrev pub invariant-loop-rest : goal.invariant-loop-rest
invariant-loop-rest l = Halved l.passes l.rest l.pass

abbrev pub decreases-loop-rest : goal.decreases-loop-rest
decreases-loop-rest l = l.rest
