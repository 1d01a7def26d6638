-- `part_stops::aim_stops` meets its contract.
use Rattle.part_stops.proofs.Backward.{Aiming}
use Rattle.part_stops.proofs.aim_stops.Given as goal

abbrev pub invariant-loop-j : goal.invariant-loop-j
invariant-loop-j l = Aiming l.initial.scratch l.stops l.scratch l.a l.j
