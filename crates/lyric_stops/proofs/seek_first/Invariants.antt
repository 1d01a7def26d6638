-- `lyric_stops::seek_first` meets its contract.
use Prim.Native.Nat.{◌-◌}
use Rattle.lyric_stops.specs.Stops.{stops_in}
use Rattle.lyric_stops.proofs.Walks.{ToFirst}
use Rattle.lyric_stops.proofs.seek_first.Given as goal

abbrev pub invariant-loop-stops : goal.invariant-loop-stops
invariant-loop-stops l = ToFirst (stops_in l.scratch l.stops) l.from l.j l.x

abbrev pub decreases-loop-stops : goal.decreases-loop-stops
decreases-loop-stops l = l.stops.count - l.j
