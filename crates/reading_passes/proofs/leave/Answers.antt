-- `reading_passes::leave` meets its contract.
use native.Mathlib.Numerals.{add-one}
use native.Mathlib.Omega.{arith}
use Rattle.reading_passes.proofs.Leaves.{leave_first, leave_again, leave_over}
use Rattle.reading_passes.proofs.leave.Goals as goal

pub returns-then-w-eq1 : goal.returns-then-w-eq1
returns-then-w-eq1 c = let p = c.requires in leave_first _ _ _ _ _ p.0 _ p.1 c.if-w-eq1.true

pub limit_of-limit-requires : goal.limit_of-limit-requires
limit_of-limit-requires c =
    let p = c.requires in
    (omega (arith, p.0.behind, p.0.in_part), p.0.before_is, p.1)

pub overflow_add-result : goal.overflow_add-result
overflow_add-result c = let p = c.requires in omega (arith, p.0.pass_most)

pub returns-then-w-limit : goal.returns-then-w-limit
returns-then-w-limit c =
    let l = c.limit_of-limit in
    let p = c.requires in
    leave_again _ _ _ _ _ p.0 _ l.ensures.limit_is l.ensures.section_lt_end _ (add-one _) c.if-w-limit.true

pub overflow_add-result-2 : goal.overflow_add-result-2
overflow_add-result-2 c = let p = c.requires in omega (arith, c.args.part.now.here.few, p.0.in_part)

pub overflow_add-result-3 : goal.overflow_add-result-3
overflow_add-result-3 c = let p = c.requires in omega (arith, c.args.part.now.here.few, p.0.in_part)

pub returns : goal.returns
returns c =
    let l = c.limit_of-limit in
    let p = c.requires in
    leave_over _ _ _ _ _ p.0 _ l.ensures.limit_is l.ensures.section_lt_end _ (add-one _) c.if-w-limit.false
