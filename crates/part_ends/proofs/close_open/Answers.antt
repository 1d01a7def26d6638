-- `part_ends::close_open` meets its contract.
use native.Mathlib.Omega.{arith}
use mathlib.Core.Path.{sym, ◌∙◌}
use Rattle.laws.proofs.Numbers.{length_little}
use Rattle.part_rows.proofs.Tables.{only_none, only_splice}
use Rattle.part_ends.proofs.Closing.{open_on, open_ends}
use Rattle.part_ends.proofs.close_open.Goals as goal

pub returns-then-ends_at : goal.returns-then-ends_at
returns-then-ends_at c =
    let e = rw c.from-code.ensures at c.set_volta.ensures in
    record { only = only_splice _ _ _ _ _ _ e (omega arith) (omega (arith, length_little 4 c.args.span.passes)); table = λ x y m o h s. open_ends h o _ _ s (sym (c.ends_at.ensures x y m h) ∙ c.if-ends_at.true) e }

pub returns : goal.returns
returns c = record { only = only_none _ _ _; table = λ x y m o h s. open_on h o _ s (sym (c.ends_at.ensures x y m h) ∙ c.if-ends_at.false) }
