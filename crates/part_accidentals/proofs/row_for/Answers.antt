-- `part_accidentals::row_for` meets its contract: there is one, or it is new.
use Rattle.part_accidentals.proofs.Resolving.{row_found, row_put}
use Rattle.part_accidentals.proofs.row_for.Goals as goal

pub returns-then-found-ne0 : goal.returns-then-found-ne0
returns-then-found-ne0 c =
    let a = c.args in
    row_found a.store.now a.at a.count a.step a.octave _ c.find_row-found.ensures c.if-found-ne0.true

pub returns : goal.returns
returns c =
    let a = c.args in
    row_put a.store.now a.at a.count a.step a.octave _ c.find_row-found.ensures c.if-found-ne0.false _ c.put_row.ensures
