-- `lyric_stops::put_stop` meets its contract.
use mathlib.Core.Path.{refl}
use Rattle.laws.specs.Bytes.{little}
use Rattle.laws.proofs.Splices.{spliced_next}
use Rattle.lyric_stops.specs.Stops.{stop_bytes}
use Rattle.lyric_stops.proofs.put_stop.Goals as goal

pub returns : goal.returns
unfolding stop_bytes little
returns c = rw (← c.min-near.ensures, ← c.from.ensures) (spliced_next _ _ _ _ _ _ _ c.put_u16.ensures c.put_u8.ensures refl)
