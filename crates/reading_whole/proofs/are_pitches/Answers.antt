-- `reading_whole::are_pitches` meets its contract: so far the pitches below i are tested.
use mathlib.Core.Path.{◌≡◌, refl, sym}
use native.Mathlib.Omega.{arith}
use borrow.Author.Rules.{rules}
use Rattle.reading_whole.specs.Whole.{is_pitch}
use Rattle.reading_whole.specs.Given.{pitches_fine}
use Rattle.reading_whole.proofs.Records.{every_none, every_more}
use Rattle.reading_whole.proofs.are_pitches.Goals as goal

pub loop-i-init : goal.loop-i-init
loop-i-init c = (search rules, sym (every_none _))

pub loop-i-preserved : goal.loop-i-preserved
unfolding is_pitch
loop-i-preserved c = (search rules, every_more _ _ _ c.loop-i.invariant.1 refl)

pub returns : goal.returns
unfolding pitches_fine
returns c =
    let l = c.loop-i in
    let e : l.i ≡ c.args.count = omega (arith, l.invariant.0, c.loop-i-test.false) in
    rw e at l.invariant.1
