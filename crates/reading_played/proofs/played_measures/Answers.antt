-- `reading_played::played_measures` meets its contract: the answer and the store are those of `played_measures`.
use mathlib.Core.Path.{sym, ap, ◌∙◌}
use native.Mathlib.Omega.{arith}
use borrow.Author.Rules.{rules}
use Rattle.reading_walk.specs.Played.{Outcome}
use Rattle.reading_played.proofs.Calls.{part_is, call_refused, call_listed}
use Rattle.reading_played.proofs.Parts.{part_room, part_listed, part_here}
use Rattle.reading_played.proofs.played_measures.Goals as goal

pub returns-then-not-has_part : goal.returns-then-not-has_part
returns-then-not-has_part c =
    let r = c.refuse.ensures in
    let e = call_refused _ _ _ (sym c.has_part.ensures ∙ c.if-not-has_part.true) in
    record { result_value = r.result_value ∙ ap (λ (o : Outcome). o.answer) e; list_after = r.list_after ∙ ap (λ (o : Outcome). o.store) e }

pub overflow_sub-part : goal.overflow_sub-part
overflow_sub-part c = let p = part_is _ _ (sym c.has_part.ensures ∙ c.if-not-has_part.false) in omega (arith, p.least)

pub part_at-at-requires : goal.part_at-at-requires
part_at-at-requires c =
    let p = part_is _ _ (sym c.has_part.ensures ∙ c.if-not-has_part.false) in
    (p.whole, omega (arith, p.least, p.most))

pub get_u32-requires : goal.get_u32-requires
get_u32-requires c =
    let p = part_is _ _ (sym c.has_part.ensures ∙ c.if-not-has_part.false) in
    part_room _ _ _ p c.part_at-at.ensures

pub invariant_of-part : goal.invariant_of-part
invariant_of-part c =
    let p = part_is _ _ (sym c.has_part.ensures ∙ c.if-not-has_part.false) in
    record { here = part_here _ _ _ _ p c.part_at-at.ensures c.get_u32.ensures (search rules) }

pub returns : goal.returns
returns c =
    let r = c.write_list.ensures in
    let h = sym c.has_part.ensures ∙ c.if-not-has_part.false in
    let e = part_listed _ _ _ _ c.part_at-at.ensures ∙ call_listed _ _ _ h in
    record { result_value = r.result_value ∙ ap (λ (o : Outcome). o.answer) e; list_after = r.list_after ∙ ap (λ (o : Outcome). o.store) e }
