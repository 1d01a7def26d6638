-- `lyric_walk::gather` meets its contract: row after row.
use Rattle.lyric_walk.proofs.Steps.{Gathering}
use Rattle.lyric_walk.proofs.gather.Given as goal

abbrev pub invariant-loop-place : goal.invariant-loop-place
invariant-loop-place l = Gathering l.scratch l.log l.k l.from l.places l.held l.least l.most l.place

abbrev pub decreases-loop-place : goal.decreases-loop-place
decreases-loop-place l = l.place
