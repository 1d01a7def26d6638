-- `tally_text::append_lines` meets its contract: what is written, and what is still to come, are all lines.
use Rattle.tally_text.proofs.Lines.{Doing}
use Rattle.tally_text.proofs.append_lines.Given as goal

abbrev pub invariant-loop-i : goal.invariant-loop-i
invariant-loop-i l = Doing l.reading l.n l.initial.out l.at l.out l.end l.place l.i
