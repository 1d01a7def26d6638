-- `text_numbers::read_digits` meets its contract. The loop's invariant is `Reading`.
use mathlib.Core.Path.{sym, ◌∙◌}
use Rattle.text_numbers.proofs.Numbers.{reading_on}
use Rattle.text_numbers.proofs.read_digits.Goals as goal

pub loop-i-preserved : goal.loop-i-preserved
loop-i-preserved c = rw c.with_digit-number.ensures (reading_on _ _ _ _ c.loop-i.invariant (sym c.is_digit.ensures ∙ c.if-not-is_digit.false))
