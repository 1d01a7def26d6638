-- `reading_bars::Part::limit_from` meets its contract: so far the measures from `start` to just before i are seen.
use Prim.Native.Nat.{suc, ◌+◌, ◌<◌}
use mathlib.Core.Path.{◌≡◌, ap, ◌∙◌}
use native.Mathlib.Omega.{arith}
use borrow.Author.Rules.{rules}
use Rattle.laws.specs.Bytes.{u32_at}
use Rattle.reading_walk.specs.Walk as walk
use Rattle.reading_walk.proofs.Bars.{top_from, top_none}
use Rattle.reading_bars.proofs.Spans.{bar_opens, bar_span, bar_after}
use Rattle.reading_bars.proofs.Limits.{seen_none, part_more, part_all, top_open}
use Rattle.reading_bars.proofs.Part.limit_from.Goals as goal
use Rattle.reading_bars.proofs.Part.limit_from.Goals.{else-start-i-via-then-start-i+else-opens, else-start-i-via-else-start-i}

pub loop-i-init : goal.loop-i-init
loop-i-init c = let p = c.requires in (p.before_value, seen_none _ _ _)

pub returns-then-opens : goal.returns-then-opens
returns-then-opens c =
    let l = c.loop-i in
    let a = c.args in
    let m = a.self.now in
    let s = m.reading.now in
    let h : l.i < u32_at s m.at = omega (arith, c.loop-i-test.true, m.here.count_is) in
    let o = bar_opens s m.at l.i l.span c.bar_at-bar.result c.bar_at-bar.ensures l.invariant.0 c.opens.ensures c.if-opens.true in
    let seen = l.invariant.1 in
    record { start_lt_end = seen.some c.if-start-i.true; limit_is = record { holds = part_all _ _ _ _ _ _ seen (top_open s m.at l.i h o) } }

pub raised-limit-requires : goal.raised-limit-requires
raised-limit-requires c = (c.loop-i.invariant.1.two, search rules)

pub loop-i-preserved : goal.loop-i-preserved
loop-i-preserved c =
    let l = c.loop-i in
    let a = c.args in
    let m = a.self.now in
    let s = m.reading.now in
    let h : l.i < u32_at s m.at = omega (arith, c.loop-i-test.true, m.here.count_is) in
    let k : l.i + 1 ≡ suc l.i = omega arith in
    rw (k, c.raised-limit.ensures.0, c.raised-limit.ensures.1) (
      bar_after s m.at l.i l.span c.bar_at-bar.result c.bar_at-bar.ensures l.invariant.0,
      part_more s m.at a.start l.i l.limit.most l.limit.end l.invariant.1 c.greatest_pass.result h
          (c.greatest_pass.ensures ∙ ap walk.top_of (bar_span s m.at l.i l.span c.bar_at-bar.result c.bar_at-bar.ensures l.invariant.0))
          (elim c.else-start-i.branch [
            | else-start-i-via-then-start-i+else-opens w ↦ λ g. bar_opens s m.at l.i l.span c.bar_at-bar.result c.bar_at-bar.ensures l.invariant.0 w.opens.ensures w.if-opens.false
            | else-start-i-via-else-start-i w ↦ λ g. absurd (omega (arith, w.if-start-i.false, g))
          ]),
    )

pub returns : goal.returns
returns c =
    let l = c.loop-i in
    let m = c.args.self.now in
    let z : top_from m.reading.now m.at l.i ≡ 0 = top_none m.reading.now m.at l.i (omega (arith, c.loop-i-test.false, m.here.count_is)) in
    let seen = l.invariant.1 in
    record { start_lt_end = seen.some (omega (arith, c.loop-i-test.false, m.here.count_is)); limit_is = record { holds = part_all _ _ _ _ _ _ seen z } }
