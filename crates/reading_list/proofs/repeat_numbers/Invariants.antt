-- `reading_list::repeat_numbers` meets its contract: so far those above `least` of the numbers up to i are written.
use Rattle.reading_list.proofs.Copying.{Copying}
use Rattle.reading_list.proofs.repeat_numbers.Given as goal

abbrev pub invariant-loop-i : goal.invariant-loop-i
invariant-loop-i l = Copying l.room l.listed l.least l.from l.to l.initial.list l.list l.count l.i
