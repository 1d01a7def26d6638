-- `reading_played::write_list` meets its contract.
use mathlib.Core.Path.{refl, ap, ◌∙◌}
use native.Mathlib.Omega.{arith}
use borrow.Author.Rules.{rules}
use Rattle.reading_walk.specs.Played.{Outcome, refused_with}
use Rattle.reading_passes.specs.Walks.{all_of}
use Rattle.reading_played.proofs.Calls.{list_short, list_full, list_fits}
use Rattle.reading_played.proofs.write_list.Goals as goal

pub returns-then-list-lt-COUNT : goal.returns-then-list-lt-COUNT
returns-then-list-lt-COUNT c =
    let r = c.refuse.ensures in
    let e = list_short _ _ c.if-list-lt-COUNT.true in
    record { result_value = r.result_value ∙ ap (λ (o : Outcome). o.answer) e; list_after = r.list_after ∙ ap (λ (o : Outcome). o.store) e }

pub play-requires : goal.play-requires
play-requires c = search rules

pub returns-in_default : goal.returns-in_default
returns-in_default c =
    let r = c.refuse-in_default.ensures in
    let e =
    ap (refused_with 20) c.play.auto.list
    ∙ list_full (all_of c.args.part.now.reading.now c.args.part.now.at) _ _ c.if-list-lt-COUNT.false c.room_of-room.ensures c.in_default.ensures.says in
    record { result_value = r.result_value ∙ ap (λ (o : Outcome). o.answer) e; list_after = r.list_after ∙ ap (λ (o : Outcome). o.store) e }

pub overflow_cast-count : goal.overflow_cast-count
overflow_cast-count c = let p = c.in-Some.ensures.says in omega (arith, p.1, c.room_of-room.ensures)

pub overflow_mul-end : goal.overflow_mul-end
overflow_mul-end c = let p = c.in-Some.ensures.says in omega (arith, p.1, c.room_of-room.ensures)

pub overflow_add-end : goal.overflow_add-end
overflow_add-end c = let p = c.in-Some.ensures.says in omega (arith, p.1, c.room_of-room.ensures)

pub clear-requires : goal.clear-requires
clear-requires c =
    let p = c.in-Some.ensures.says in
    omega (arith, p.1, c.room_of-room.ensures, c.if-list-lt-COUNT.false, c.put_u32.auto.store, c.play.auto.list)

pub returns : goal.returns
returns c =
    let p = c.in-Some.ensures.says in
    let e = list_fits _ _ _ _ _ _ _ _ c.if-list-lt-COUNT.false c.room_of-room.ensures p.0 p.1 refl p.2 c.put_u32.ensures c.clear.ensures in
    record { result_value = e.0; list_after = e.1 }
