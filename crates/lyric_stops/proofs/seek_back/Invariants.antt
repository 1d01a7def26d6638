-- `lyric_stops::seek_back` meets its contract.
use mathlib.Core.Path.{◌≡◌}
use Rattle.lyric_stops.specs.Stops.{stops_in, back_of}
use Rattle.lyric_stops.proofs.seek_back.Given as goal

abbrev pub invariant-loop-stops : goal.invariant-loop-stops
invariant-loop-stops l = back_of (stops_in l.scratch l.stops) l.place ≡ back_of (stops_in l.scratch l.stops) l.initial.place

abbrev pub decreases-loop-stops : goal.decreases-loop-stops
decreases-loop-stops l = l.place
