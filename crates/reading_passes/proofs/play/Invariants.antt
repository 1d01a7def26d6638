-- `reading_passes::play` meets its contract: pass after pass, as proofs/Playing has it.
use Rattle.reading_passes.proofs.Playing.{Playing, rank_of}
use Rattle.reading_passes.proofs.play.Given as goal

abbrev pub invariant-loop-x : goal.invariant-loop-x
invariant-loop-x l = Playing l.part.reading.now l.part.at l.part.measures l.room l.initial.list l.list l.kept l.x l.count

abbrev pub decreases-loop-x : goal.decreases-loop-x
decreases-loop-x l = rank_of l.part.measures l.x
