-- `lyric_lines::note_from` meets its contract.
use mathlib.Core.Path.{refl, subst}
use Rattle.lyric_stops.specs.declared.Stops.{Stops}
use Rattle.lyric_stops.specs.Stops.{stops_in}
use Rattle.lyric_stops.specs.Walks.{TakerFrom}
use Rattle.lyric_lines.proofs.note_from.Goals as goal

pub seek_taker-requires : goal.seek_taker-requires
seek_taker-requires c = rw c.stops_of.ensures c.requires

pub returns-in-First : goal.returns-in-First
returns-in-First c = rw c.in-First.is refl

pub returns-in-Second : goal.returns-in-Second
returns-in-Second c =
    let a = c.args in
    rw c.in-Second.is
    (subst (λ (t : Stops). TakerFrom (stops_in a.scratch.now t) a.note c.seek_taker.result) c.stops_of.ensures c.seek_taker.ensures)
