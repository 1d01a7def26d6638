-- `part_stops::aim_stops` meets its contract.
use native.Mathlib.Omega.{arith}
use Rattle.part_stops.proofs.Backward.{aiming_start, aiming_on, aiming_next, aiming_end}
use Rattle.part_stops.proofs.aim_stops.Goals as goal

pub loop-j-init : goal.loop-j-init
loop-j-init c = aiming_start c.args.scratch.now c.args.stops

pub aim_stop-a-requires : goal.aim_stop-a-requires
aim_stop-a-requires c =
    let a = c.args in
    let l = c.loop-j in
    let on = aiming_on a.scratch.now a.stops l.scratch l.a l.j l.invariant (omega arith) in
    (omega (arith, c.requires, l.invariant.only.same_length), omega (arith, l.invariant.low), on.0, on.1)

pub loop-j-preserved : goal.loop-j-preserved
loop-j-preserved c =
    let a = c.args in
    let l = c.loop-j in
    aiming_next a.scratch.now a.stops l.scratch l.a l.j l.invariant _ _ c.aim_stop-a.ensures

pub shape_of-scratch : goal.shape_of-scratch
shape_of-scratch c = c.loop-j.invariant.only.same_length

pub returns : goal.returns
returns c =
    let a = c.args in
    let l = c.loop-j in
    aiming_end a.scratch.now a.stops l.scratch l.a l.j l.invariant (omega arith)
