-- `part_ends::close_none` meets its contract.
use native.Mathlib.Omega.{arith}
use mathlib.Core.Path.{sym, ◌∙◌}
use Rattle.part_rows.proofs.Tables.{only_none, only_splice}
use Rattle.part_measures.specs.Heads.{volta_at}
use Rattle.part_ends.proofs.Closing.{byte_of, starts_code, none_on, none_alone, none_starts}
use Rattle.part_ends.proofs.close_none.Goals as goal

pub returns-then-not-begins_volta : goal.returns-then-not-begins_volta
returns-then-not-begins_volta c = record { only = only_none _ _ _; table = λ x y m o h s. none_on h o s (sym (starts_code m _ _ c.begins_volta.ensures (byte_of h volta_at (omega arith))) ∙ c.if-not-begins_volta.true) }

pub returns-then-ends_at : goal.returns-then-ends_at
returns-then-ends_at c =
    let e = c.set_volta_kind.ensures in
    record { only = only_splice _ _ _ _ _ _ e (omega arith) (omega arith); table = λ x y m o h s. none_alone h o _ s (sym (starts_code m _ _ c.begins_volta.ensures (byte_of h volta_at (omega arith))) ∙ c.if-not-begins_volta.false) (sym (c.ends_at.ensures x y m h) ∙ c.if-ends_at.true) e }

pub returns : goal.returns
returns c =
    record { only = only_none _ _ _; table = λ x y m o h s. none_starts h o _ s (sym (starts_code m _ _ c.begins_volta.ensures (byte_of h volta_at (omega arith))) ∙ c.if-not-begins_volta.false) (sym (c.ends_at.ensures x y m h) ∙ c.if-ends_at.false) c.get_first_pass.ensures c.get_passes.ensures }
