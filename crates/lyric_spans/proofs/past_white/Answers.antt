-- `lyric_spans::past_white` meets its contract.
use borrow.Author.Rules.{rules}
use mathlib.Core.Path.{refl, sym, ◌∙◌}
use native.Mathlib.Omega.{arith}
use Rattle.lyric_spans.proofs.Whites.{white_in, white_past, start_here}
use Rattle.lyric_spans.proofs.past_white.Goals as goal

pub loop-i-init : goal.loop-i-init
loop-i-init c = (omega arith, search rules, refl)

pub returns-then-w-eq0 : goal.returns-then-w-eq0
returns-then-w-eq0 c =
    let v = c.loop-i.invariant in
    start_here _ _ _ _ v.0 v.1 v.2 (λ h. sym c.white_at-w.ensures ∙ c.if-w-eq0.true)

pub overflow_add-i : goal.overflow_add-i
overflow_add-i c =
    let a = c.args in
    omega (arith, white_in a.text.now c.loop-i.i a.end c.loop-i-test.true c.requires.1, c.white_at-w.ensures, c.ranges.end)

pub loop-i-smaller : goal.loop-i-smaller
loop-i-smaller c =
    let a = c.args in
    omega (arith, white_in a.text.now c.loop-i.i a.end c.loop-i-test.true c.requires.1, c.white_at-w.ensures)

pub loop-i-preserved : goal.loop-i-preserved
loop-i-preserved c =
    let a = c.args in
    let l = c.loop-i in
    let v = l.invariant in
    let h = c.loop-i-test.true in
    let e = c.white_at-w.ensures in (
      omega arith,
      omega (arith, white_in a.text.now l.i a.end h c.requires.1, e),
      v.2 ∙ white_past a.text.now l.i a.end h c.requires.1 _ e (omega arith),
    )

pub returns : goal.returns
returns c =
    let v = c.loop-i.invariant in
    let left = c.loop-i-test.false in
    start_here _ _ _ _ v.0 v.1 v.2 (λ h. absurd (omega arith))
