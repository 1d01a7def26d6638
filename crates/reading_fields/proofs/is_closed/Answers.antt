-- `reading_fields::is_closed` meets its contract.
use Rattle.reading_fields.specs.Codes.{is_closed}
use Rattle.reading_fields.proofs.is_closed.Goals as goal

pub returns-in-Inside : goal.returns-in-Inside
unfolding is_closed
returns-in-Inside c = rw c.in-Inside.is

pub returns-in-Outside : goal.returns-in-Outside
unfolding is_closed
returns-in-Outside c = rw c.in-Outside.is

pub returns-in-Wrong : goal.returns-in-Wrong
unfolding is_closed
returns-in-Wrong c = rw c.in-Wrong.is
