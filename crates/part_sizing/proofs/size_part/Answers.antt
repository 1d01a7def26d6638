-- `part_sizing::size_part` meets its contract.
use Rattle.part_sizing.proofs.Fits.{tables_end, tables_fit}
use Rattle.part_sizing.proofs.size_part.Goals as goal

pub made_by-requires : goal.made_by-requires
made_by-requires c = c.requires

pub tables_at-requires : goal.tables_at-requires
tables_at-requires c =
    let a = c.args in
    tables_end a.text.now a.scratch.now a.n a.part c.requires _ c.made_by.ensures

pub returns : goal.returns
returns c =
    let a = c.args in
    tables_fit a.text.now a.scratch.now a.n a.part c.requires _ _ c.made_by.ensures c.tables_at.ensures
