-- `lyric_stops::seek_taker` meets its contract.
use Prim.Native.Nat.{◌-◌}
use Rattle.lyric_stops.specs.Stops.{stops_in}
use Rattle.lyric_stops.proofs.Walks.{ToTaker}
use Rattle.lyric_stops.proofs.seek_taker.Given as goal

abbrev pub invariant-loop-stops : goal.invariant-loop-stops
invariant-loop-stops l = ToTaker (stops_in l.scratch l.stops) l.from l.j l.x

abbrev pub decreases-loop-stops : goal.decreases-loop-stops
decreases-loop-stops l = l.stops.count - l.j
