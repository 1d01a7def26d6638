-- `reading_bars::greatest_of` meets its contract: so far the passes are halved `pass` times.
use mathlib.Core.Path.{◌≡◌}
use native.Mathlib.Omega.{arith}
use Rattle.reading_bars.proofs.Passes.{halved_none, halved_more, halved_all}
use Rattle.reading_bars.proofs.greatest_of.Goals as goal

pub loop-rest-init : goal.loop-rest-init
loop-rest-init c = halved_none _

pub overflow_add-pass : goal.overflow_add-pass
overflow_add-pass c = omega (arith, c.loop-rest.invariant.within)

pub loop-rest-smaller : goal.loop-rest-smaller
loop-rest-smaller c = omega (arith, c.loop-rest-test.true)

pub loop-rest-preserved : goal.loop-rest-preserved
loop-rest-preserved c = let l = c.loop-rest in halved_more _ l.rest l.pass c.requires c.loop-rest-test.true l.invariant

pub returns : goal.returns
returns c =
    let l = c.loop-rest in
    let e : l.rest ≡ 0 = omega (arith, c.loop-rest-test.false) in
    halved_all _ l.pass (rw e at l.invariant)
