-- WHERE THE PLAYER GOES ON after a pass.
use Prim.Native.Nat.{ℕ, suc, ◌≤◌, ◌<◌}
use mathlib.Core.Path.{◌≡◌, refl, sym, ap, subst, ◌∙◌}
use mathlib.Core.List.{List}
use native.Mathlib.Omega.{arith}
use borrow.Author.Tests.{lt-ltb, le-ltb}
use Rattle.reading_walk.specs.Walk.{Bar, limit}
use Rattle.reading_walk.specs.Spans.{bars_of}
use Rattle.reading_walk.specs.Passes.{played_at, played_on}
use Rattle.reading_walk.proofs.Ends.{limit_most, limit_least}
use Rattle.reading_bars.specs.Bars.{LimitIs}
use Rattle.reading_bars.specs.declared.Limit.{Limit}
use Rattle.reading_passes.specs.declared.Pass.{Pass}
use Rattle.reading_passes.specs.declared.Walked.{Walked}
use Rattle.reading_passes.specs.Walks.{ClosedIs, OnIs, NextIs}

-- back to the section's start, or on
on_again : (bars : List Bar) (m s p : ℕ) → p < limit bars s → played_on bars m s p ≡ played_at bars s s (suc p)
unfolding played_on
on_again bars m s p h = rw (lt-ltb p (limit bars s) h) refl

on_over : (bars : List Bar) (m s p : ℕ) → limit bars s ≤ p → played_on bars m s p ≡ played_at bars (suc m) (suc m) 1
unfolding played_on
on_over bars m s p h = rw (le-ltb p (limit bars s) h) refl

-- a limit holds for later sections too
pub limit_later : (s : List ℕ) (at from to : ℕ) (l : Limit) → from ≤ to → LimitIs s at from l → LimitIs s at to l
limit_later s at from to l h k = record { holds = λ t x y. k.holds t (omega (arith, h, x)) y }

-- A SECTION WAS OPENED, or the part is over
pub leave_open : (s : List ℕ) (at n : ℕ) (p : Pass) (w : Walked) (l : Limit) → OnIs s at n p w → LimitIs s at p.section l
    → NextIs s at n p w.count (record { section = w.section; pass = w.pass; before = w.before; at = w.at; span = w.after; most = l.most; end = l.end })
leave_open s at n p w l h k =
    record {
      stands = h.stands;
      limit_is = limit_later s at p.section w.section l (omega (arith, h.later)) k;
      later = omega (arith, h.later);
      more = λ x. absurd (omega (arith, x, h.later));
    }

-- A MEASURE CLOSED IT
module _ (s : List ℕ) (at n : ℕ) (p : Pass) (w : Walked) (c : ClosedIs s at n p w) (l : Limit) (k : LimitIs s at w.section l) where
  again : (q : ℕ) → q ≡ suc w.pass → w.pass < limit (bars_of s at) w.section
      → NextIs s at n p w.count (record { section = w.section; pass = q; before = w.before; at = w.section; span = w.before; most = l.most; end = l.end })
  again q e h =
      record {
        stands =
            record {
              in_part = omega (arith, c.behind, c.in_part);
              low = omega arith;
              high = omega arith;
              pass_least = omega (arith, e);
              pass_most = omega (arith, e, h, limit_most (bars_of s at) w.section);
              before_is = c.before_is;
              span_is = c.before_is;
              rest =
                  c.closed_at_lem.rest
                  ∙ on_again (bars_of s at) w.at w.section w.pass h
                  ∙ ap (played_at (bars_of s at) w.section w.section) (sym e);
            };
        limit_is = k;
        later = c.later;
        more = λ x. e ∙ ap suc (c.same x);
      }

  -- pass 1
  pub leave_first : w.pass ≡ 1
      → NextIs s at n p w.count (record { section = w.section; pass = 2; before = w.before; at = w.section; span = w.before; most = l.most; end = l.end })
  leave_first e = again 2 (omega (arith, e)) (omega (arith, e, limit_least (bars_of s at) w.section))

  module _ (known : w.section < l.end) where
    is_limit : limit (bars_of s at) w.section ≡ l.most
    is_limit = k.holds w.section (omega arith) known

    pub leave_again : (q : ℕ) → q ≡ suc w.pass → w.pass < l.most
        → NextIs s at n p w.count (record { section = w.section; pass = q; before = w.before; at = w.section; span = w.before; most = l.most; end = l.end })
    leave_again q e h = again q e (omega (arith, h, is_limit))

    pub leave_over : (m : ℕ) → m ≡ suc w.at → l.most ≤ w.pass
        → NextIs s at n p w.count (record { section = m; pass = 1; before = w.after; at = m; span = w.after; most = l.most; end = l.end })
    leave_over m e h =
        subst (λ (y : ℕ). NextIs s at n p w.count (record { section = y; pass = 1; before = w.after; at = y; span = w.after; most = l.most; end = l.end })) (sym e)
        (record {
          stands =
              record {
                in_part = omega (arith, c.in_part);
                low = omega arith;
                high = omega arith;
                pass_least = omega arith;
                pass_most = omega arith;
                before_is = c.after_is;
                span_is = c.after_is;
                rest = c.closed_at_lem.rest ∙ on_over (bars_of s at) w.at w.section w.pass (omega (arith, h, is_limit));
              };
          limit_is = limit_later s at w.section (suc w.at) l (omega (arith, c.behind)) k;
          later = omega (arith, c.later, c.behind);
          more = λ x. absurd (omega (arith, x, c.behind, c.later));
        })
