-- `reading_passes::walk_pass` meets its contract: measure by measure, as proofs/Walks has it.
use Rattle.reading_passes.proofs.Walks.{Going}
use Rattle.reading_passes.proofs.walk_pass.Given as goal

abbrev pub invariant-loop-at : goal.invariant-loop-at
invariant-loop-at l = Going l.part.reading.now l.part.at l.part.measures l.room l.start l.initial.list l.list l.span l.count l.at
