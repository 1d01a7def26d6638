-- `part_stops::write_stops` meets its contract.
use native.Mathlib.Omega.{arith}
use Rattle.part_stops.proofs.Bars.{stopped}
use Rattle.part_stops.proofs.write_stops.Goals as goal

pub aim_stops-requires : goal.aim_stops-requires
aim_stops-requires c = omega (arith, c.requires.inside, c.mark_measures.ensures.only.same_length)

pub returns : goal.returns
returns c =
    let a = c.args in
    stopped a.scratch.now _ _ a.measures a.n a.notes a.stops c.mark_measures.ensures c.aim_stops.ensures
