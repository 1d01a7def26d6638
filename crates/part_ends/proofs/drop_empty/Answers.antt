-- `part_ends::drop_empty` meets its contract.
use native.Mathlib.Omega.{arith}
use mathlib.Core.Path.{sym, ◌∙◌}
use Rattle.part_ends.proofs.Closing.{drops_few, drops_one, drops_none}
use borrow.Author.Rules.{rules}
use Rattle.part_ends.proofs.drop_empty.Goals as goal

pub returns-then-n-lt2 : goal.returns-then-n-lt2
returns-then-n-lt2 c = record { upper_bound = search rules; value = λ heads t h small. drops_few _ heads t h c.if-n-lt2.true }

pub returns-then-is_empty : goal.returns-then-is_empty
returns-then-is_empty c = record { upper_bound = search rules; value = λ heads t h small. drops_one _ heads t h small (λ l. omega arith) (sym c.is_empty.ensures ∙ c.if-is_empty.true) }

pub returns-else-is_empty : goal.returns-else-is_empty
returns-else-is_empty c = record { upper_bound = search rules; value = λ heads t h small. drops_none _ heads t h small (λ l. omega arith) (sym c.is_empty.ensures ∙ c.if-is_empty.false) }
