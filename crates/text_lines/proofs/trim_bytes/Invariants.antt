-- `text_lines::trim_bytes` meets its contract. The loop's invariant is `Trimming`.
use Rattle.text_white.specs.States.{as_white}
use Rattle.text_lines.proofs.Cleaning.{Trimming}
use Rattle.text_lines.proofs.trim_bytes.Given as goal

abbrev pub invariant-loop-i : goal.invariant-loop-i
invariant-loop-i l = Trimming l.text l.from l.to (as_white l.t.q) l.t.end l.i
