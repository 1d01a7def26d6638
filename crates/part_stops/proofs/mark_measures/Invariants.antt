-- `part_stops::mark_measures` meets its contract: the notes of the measures before measure i are marked (`AllMarking`).
use Prim.Native.Nat.{◌+◌, ◌-◌, ◌*◌}
use Rattle.reader.specs.Records.{measure_width}
use Rattle.part_stops.proofs.Forward.{AllMarking}
use Rattle.part_stops.proofs.mark_measures.Given as goal

abbrev pub invariant-loop-i : goal.invariant-loop-i
invariant-loop-i l = AllMarking l.initial.scratch l.stops l.measures l.n l.notes l.scratch l.count l.last (l.measures + measure_width * l.i) l.p (l.n - l.i)
