-- `reading_passes::is_kept` meets its contract.
use mathlib.Core.Path.{refl}
use borrow.Author.Tests.{le-leb, lt-leb}
use Rattle.reading_passes.proofs.is_kept.Goals as goal

pub returns-then-kept-at : goal.returns-then-kept-at
returns-then-kept-at c = rw (le-leb _ _ c.if-kept-at.true) refl

pub returns-else-kept-at : goal.returns-else-kept-at
returns-else-kept-at c = rw (lt-leb _ _ c.if-kept-at.false) refl
