-- `part_ends::close_at` meets its contract: the ending is open or not.
use Rattle.part_ends.proofs.close_at.Goals as goal

pub returns-in-None-clause-table : goal.returns-in-None-clause-table
returns-in-None-clause-table c = λ a b m o h s. c.close_none.ensures.table a b m o h (rw c.in-None.is at s)

pub returns-in-Some-clause-table : goal.returns-in-Some-clause-table
returns-in-Some-clause-table c = λ a b m o h s. c.close_open.ensures.table a b m o h (rw c.in-Some.is at s)
