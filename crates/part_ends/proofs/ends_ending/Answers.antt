-- `part_ends::ends_ending` meets its contract.
use mathlib.Core.Path.{◌∙◌}
use borrow.Author.Tests.{eq-eqb, ne_eqb}
use Rattle.part_ends.proofs.Closing.{ends_code}
use Rattle.part_ends.proofs.ends_ending.Goals as goal

pub returns-then-code-repeat_end : goal.returns-then-code-repeat_end
returns-then-code-repeat_end c = λ b e. (simp (eq-eqb _ 2 (c.if-code-repeat_end.true ∙ c.from-repeat_end.ensures)) at (ends_code b _ e))

pub returns-then-code-repeat_both : goal.returns-then-code-repeat_both
returns-then-code-repeat_both c =
    λ b e.
    let n = rw c.from-repeat_end.ensures at c.if-code-repeat_end.false in
    (simp (ne_eqb _ 2 n, eq-eqb _ 3 (c.if-code-repeat_both.true ∙ c.from-repeat_both.ensures)) at (ends_code b _ e))

pub returns : goal.returns
returns c =
    λ b e.
    let n = rw c.from-repeat_end.ensures at c.if-code-repeat_end.false in
    let m = rw c.from-repeat_both.ensures at c.if-code-repeat_both.false in
    rw c.from.ensures (simp (ne_eqb _ 2 n, ne_eqb _ 3 m) at (ends_code b _ e))
