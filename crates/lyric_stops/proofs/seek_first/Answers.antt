-- `lyric_stops::seek_first` meets its contract.
use native.Mathlib.Omega.{arith}
use Rattle.lyric_stops.specs.Stops.{stops_in}
use Rattle.lyric_stops.proofs.Walks.{is_first_by, no_first_by, first_in, first_start, first_on, first_end}
use Rattle.lyric_stops.proofs.seek_first.Goals as goal

pub loop-stops-init : goal.loop-stops-init
loop-stops-init c =
    let a = c.args in
    first_start (stops_in a.scratch.now a.stops) a.from _ c.get_stop-x.ensures

-- there is a note to go on from
pub overflow_add-j : goal.overflow_add-j
overflow_add-j c =
    let a = c.args in
    let l = c.loop-stops in
    omega (arith, first_in a.scratch.now a.stops a.from l.j l.x l.invariant (no_first_by _ _ c.ne.ensures c.loop-stops-test.true), l.invariant.at.near, c.requires)

pub loop-stops-smaller : goal.loop-stops-smaller
loop-stops-smaller c =
    let a = c.args in
    let l = c.loop-stops in
    omega (arith, first_in a.scratch.now a.stops a.from l.j l.x l.invariant (no_first_by _ _ c.ne.ensures c.loop-stops-test.true), l.invariant.at.one)

pub loop-stops-preserved : goal.loop-stops-preserved
loop-stops-preserved c =
    let a = c.args in
    let l = c.loop-stops in
    first_on (stops_in a.scratch.now a.stops) a.from l.j l.x l.invariant (no_first_by _ _ c.ne.ensures c.loop-stops-test.true) _ c.get_stop-x-in-loop-stops.ensures

pub returns : goal.returns
returns c =
    let a = c.args in
    let l = c.loop-stops in
    first_end (stops_in a.scratch.now a.stops) a.from l.j l.x l.invariant (is_first_by _ _ c.ne.ensures c.loop-stops-test.false)
