-- `reading_passes::go_on` meets its contract.
use Rattle.reading_passes.proofs.Leaves.{limit_later, leave_open}
use Rattle.reading_passes.proofs.go_on.Goals as goal

pub leave-requires : goal.leave-requires
leave-requires c =
    let p = c.requires in
    let g = p.0.closes c.if-w.true in
    (g, limit_later _ _ _ _ _ g.later p.1)

pub returns : goal.returns
returns c = let p = c.requires in leave_open _ _ _ _ _ _ (p.0.opens c.if-w.false) p.1
