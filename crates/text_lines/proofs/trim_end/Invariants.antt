-- `text_lines::trim_end` meets its contract.
use mathlib.Core.Path.{◌≡◌}
use Rattle.laws.specs.Bytes.{between}
use Rattle.reader.specs.Text.{trim}
use Rattle.text_lines.proofs.trim_end.Given as goal

abbrev pub invariant-loop-i : goal.invariant-loop-i
invariant-loop-i l = trim (between l.text l.from l.i) ≡ trim (between l.text l.from l.to)
