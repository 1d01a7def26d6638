-- `part_ends::ends_at` meets its contract.
use native.Mathlib.Omega.{arith}
use mathlib.Core.Path.{sym, ◌∙◌}
use Rattle.part_measures.specs.Heads.{right_at}
use Rattle.part_ends.proofs.Closing.{ends_right, ends_last, ends_next, right_byte, byte_of}
use Rattle.part_ends.proofs.ends_at.Goals as goal

pub returns-then-ends_ending : goal.returns-then-ends_ending
returns-then-ends_ending c = λ a b m h. ends_right m b (sym (c.ends_ending.ensures m.right (c.get_right.ensures ∙ byte_of h right_at (omega arith) ∙ right_byte m)) ∙ c.if-ends_ending.true)

pub returns-then-i-n : goal.returns-then-i-n
returns-then-i-n c = λ a b m h. ends_last m b (omega (arith, h.here, h.all, c.if-i-n.true))

pub returns : goal.returns
returns c =
    λ a b m h. ends_next _ _ _ _ a b m h c.if-i-n.false
    (sym (c.ends_ending.ensures m.right (c.get_right.ensures ∙ byte_of h right_at (omega arith) ∙ right_byte m)) ∙ c.if-ends_ending.false) _ c.begins_volta.ensures
