-- `part_chords::push_pitches` meets its contract. The loop's invariant is `Pushing`.
use Rattle.part_chords.proofs.Pushing.{Pushing}
use Rattle.part_chords.proofs.push_pitches.Given as goal

abbrev pub invariant-loop-n : goal.invariant-loop-n
invariant-loop-n l = Pushing l.line l.t l.initial.store l.initial.x l.place l.store l.x l.i l.n
