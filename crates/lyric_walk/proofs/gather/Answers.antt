-- `lyric_walk::gather` meets its contract: row after row.
use Prim.Native.Nat.{max}
use mathlib.Core.Path.{◌≡◌}
use native.Mathlib.Omega.{arith}
use Rattle.std.proofs.lemmas.Grind.{common_steps}
use Rattle.lyric_walk.proofs.Steps.{gathering_start, gathering_next, gathering_end}
use Rattle.lyric_walk.proofs.gather.Goals as goal

pub loop-place-init : goal.loop-place-init
loop-place-init c =
    let a = c.args in
    gathering_start a.scratch.now a.log a.k a.from _ _ _ c.requires.1

pub get_link-row-requires : goal.get_link-row-requires
get_link-row-requires c = (omega (arith, c.loop-place-test.true), omega (arith, c.loop-place.invariant.span.low, c.requires.0))

pub take_row-requires : goal.take_row-requires
take_row-requires c = c.loop-place.invariant.wide

pub loop-place-smaller : goal.loop-place-smaller
loop-place-smaller c = omega (arith, c.get_link-row.ensures.low)

pub loop-place-preserved : goal.loop-place-preserved
loop-place-preserved c =
    let a = c.args in
    let l = c.loop-place in
    let greatest : c.max-most.result ≡ max l.most c.get_link-row.result.verse = grind (arith, common_steps) in
    rw (greatest, c.min-least.ensures)
    (gathering_next a.scratch.now a.log a.k a.from l.places l.held l.least l.most l.place l.invariant (omega (arith, c.loop-place-test.true)) _ c.get_link-row.ensures (omega arith) _ _ c.take_row.ensures)

pub returns : goal.returns
returns c =
    let a = c.args in
    let l = c.loop-place in
    gathering_end a.scratch.now a.log a.k a.from l.places l.held l.least l.most l.place l.invariant c.loop-place-test.false
