-- `part_ends::mark_first_key` meets its contract.
use native.Mathlib.Omega.{arith}
use mathlib.Core.Path.{refl}
use Rattle.part_rows.proofs.Tables.{only_none, only_splice}
use Rattle.part_ends.proofs.Closing.{marked_byte, unmarked_byte, marked_nothing, marked_already, marked_now}
use Rattle.part_ends.proofs.mark_first_key.Goals as goal

pub returns-then-n-eq0 : goal.returns-then-n-eq0
returns-then-n-eq0 c = record { only = only_none _ _ _; table = λ heads t h. marked_nothing _ heads t h c.if-n-eq0.true }

pub returns-then-has_key_mark : goal.returns-then-has_key_mark
returns-then-has_key_mark c = record { only = only_none _ _ _; table = λ heads t h. marked_already _ heads t h c.if-n-eq0.false _ refl (marked_byte _ _ c.has_key_mark.ensures c.if-has_key_mark.true) }

pub returns : goal.returns
returns c =
    let e = c.set_key_mark.ensures in
    record { only = only_splice _ _ _ _ _ _ e (omega arith) (omega arith); table = λ heads t h. marked_now _ heads _ t h c.if-n-eq0.false _ refl (unmarked_byte _ _ c.has_key_mark.ensures c.if-has_key_mark.false) e }
