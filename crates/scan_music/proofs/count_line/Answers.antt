-- `scan_music::count_line` meets its contract: in each turn the cursor is lent to `next_effect` and comes back moved on.
use Prim.Native.Nat.{zero-le}
use mathlib.Core.Path.{refl, sym, ap, ◌∙◌}
use native.Mathlib.Omega.{arith}
use Rattle.std.proofs.lemmas.Result.{err_from_is_err_and}
use Rattle.scan_music.specs.MusicLines.{by_number}
use Rattle.scan_music.proofs.MusicLines.{past, walked_less, walked_over, walked_on, walked_refused}
use Rattle.scan_music.proofs.count_line.Goals as goal

pub loop-cursor-init : goal.loop-cursor-init
loop-cursor-init c = record { to_end = refl; at_most = zero-le; to_come = refl }

pub returns-in_err-count : goal.returns-in_err-count
returns-in_err-count c =
    let l = c.loop-cursor in
    let w = walked_refused l.invariant c.loop-cursor-test.true _ _ c.next_effect-effect.ensures.effect c.after_effect.ensures _ (ap by_number c.in_err-count.was) in
    let p = err_from_is_err_and c.from_residual.result c.from_residual.ensures.1 in
    rw (p.1, p.2) w

pub loop-cursor-smaller : goal.loop-cursor-smaller
loop-cursor-smaller c =
    let l = c.loop-cursor in
    let h = walked_less l.invariant c.loop-cursor-test.true in
    let p = past c.args.edition c.args.line.now l.cursor.at h in
    rw c.next_effect-effect.ensures.moved (omega arith)

pub loop-cursor-preserved : goal.loop-cursor-preserved
loop-cursor-preserved c =
    let l = c.loop-cursor in
    rw c.next_effect-effect.ensures.moved
    (walked_on l.invariant c.loop-cursor-test.true _ _ c.next_effect-effect.ensures.effect c.after_effect.ensures _ (ap by_number c.in_ok-count.was))

pub returns : goal.returns
returns c = walked_over c.loop-cursor.invariant c.loop-cursor-test.false
