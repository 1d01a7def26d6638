-- `text_numbers::read_digits` meets its contract. The loop's invariant is `Reading`.
use Rattle.text_numbers.proofs.Numbers.{Reading}
use Rattle.text_numbers.proofs.read_digits.Given as goal

abbrev pub invariant-loop-i : goal.invariant-loop-i
invariant-loop-i l = Reading l.line l.at l.number l.i
