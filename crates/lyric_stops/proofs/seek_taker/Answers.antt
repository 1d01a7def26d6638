-- `lyric_stops::seek_taker` meets its contract.
use native.Mathlib.Omega.{arith}
use Rattle.lyric_stops.specs.Stops.{stops_in}
use Rattle.lyric_stops.proofs.Walks.{is_passed_by, no_passed_by, taker_in, taker_start, taker_on, taker_end}
use Rattle.lyric_stops.proofs.seek_taker.Goals as goal

pub loop-stops-init : goal.loop-stops-init
loop-stops-init c =
    let a = c.args in
    taker_start (stops_in a.scratch.now a.stops) a.from _ c.get_stop-x.ensures

-- there is a note to go on from
pub overflow_add-j : goal.overflow_add-j
overflow_add-j c =
    let a = c.args in
    let l = c.loop-stops in
    omega (arith, taker_in a.scratch.now a.stops a.from l.j l.x l.invariant (is_passed_by _ _ c.eq.ensures c.loop-stops-test.true), l.invariant.at.near, c.requires)

pub loop-stops-smaller : goal.loop-stops-smaller
loop-stops-smaller c =
    let a = c.args in
    let l = c.loop-stops in
    omega (arith, taker_in a.scratch.now a.stops a.from l.j l.x l.invariant (is_passed_by _ _ c.eq.ensures c.loop-stops-test.true), l.invariant.at.one)

pub loop-stops-preserved : goal.loop-stops-preserved
loop-stops-preserved c =
    let a = c.args in
    let l = c.loop-stops in
    taker_on (stops_in a.scratch.now a.stops) a.from l.j l.x l.invariant (is_passed_by _ _ c.eq.ensures c.loop-stops-test.true) _ c.get_stop-x-in-loop-stops.ensures

pub returns : goal.returns
returns c =
    let a = c.args in
    let l = c.loop-stops in
    taker_end (stops_in a.scratch.now a.stops) a.from l.j l.x l.invariant (no_passed_by _ _ c.eq.ensures c.loop-stops-test.false)
