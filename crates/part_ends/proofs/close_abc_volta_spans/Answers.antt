-- `part_ends::close_abc_volta_spans` meets its contract: measures done and measures left (`Going`).
use mathlib.Core.Path.{refl}
use native.Mathlib.Omega.{arith}
use Rattle.part_rows.proofs.Tables.{only_none, only_then}
use Rattle.part_ends.proofs.Closing.{going_start, going_turn, going_end}
use borrow.Author.Rules.{rules}
use Rattle.part_ends.proofs.close_abc_volta_spans.Goals as goal

pub loop-i-init : goal.loop-i-init
loop-i-init c = (refl, only_none _ _ _, λ heads t h. going_start _ _ _ heads t h)

pub loop-i-preserved : goal.loop-i-preserved
loop-i-preserved c =
    let v = c.loop-i.invariant in
    let e = c.close_at-span.ensures in
    (search rules, only_then v.1 e.only, λ heads t h. going_turn (v.2 heads t h) (omega arith) e.table)

pub returns : goal.returns
returns c =
    let v = c.loop-i.invariant in
    record { only = v.1; table = λ heads t h. going_end (v.2 heads t h) (omega arith) }
