-- `field_keys::key_by` meets its contract, by what was met.
use mathlib.Core.Path.{sym, ◌∙◌}
use Rattle.field_keys.specs.Passed.{key_by, key_else, ended_else}
use Rattle.field_keys.proofs.Walks.{major_or}
use Rattle.field_keys.proofs.key_by.Goals as goal
use Rattle.field_keys.proofs.key_by.Goals.{in-Some-ended+else-begins_with_capital, in_default-ended}

pub returns-in-Some : goal.returns-in-Some
unfolding key_by key_else
returns-in-Some c = rw c.in-Some.is c.key_named.ensures

pub returns-then-begins_with_capital : goal.returns-then-begins_with_capital
unfolding key_by key_else ended_else
returns-then-begins_with_capital c =
    rw (c.in_default.is, c.in-Some-ended.is, sym c.begins_with_capital.ensures ∙ c.if-begins_with_capital.true) c.key_named-then-begins_with_capital.ensures

pub returns : goal.returns
unfolding key_by key_else ended_else
returns c =
    let major = rw c.unwrap_or.ensures at c.key_named-2.ensures ∙ major_or c.args.p.major c.args.p.name in
    elim c.match-p-2.branch [
      | in-Some-ended+else-begins_with_capital w ↦ rw (c.in_default.is, w.in-Some-ended.is, sym w.begins_with_capital.ensures ∙ w.if-begins_with_capital.false) major
      | in_default-ended w ↦ rw (c.in_default.is, w.in_default-ended.is) major
    ]
