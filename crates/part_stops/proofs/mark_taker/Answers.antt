-- `part_stops::mark_taker` meets its contract.
use mathlib.Core.Path.{refl}
use Rattle.part_stops.proofs.Forward.{mark_later, mark_first}
use Rattle.part_stops.proofs.mark_taker.Goals as goal

pub returns-then-m : goal.returns-then-m
returns-then-m c =
    let a = c.args in
    (mark_later a.scratch.now _ a.stops a.m _ c.requires refl refl c.if-m.true c.put_stop.ensures, refl)

pub returns : goal.returns
returns c =
    let a = c.args in
    (mark_first a.scratch.now _ a.stops a.m _ c.requires refl refl c.if-m.false c.put_stop-2.ensures, refl)
