-- `text_lines::lacks` meets its contract. The invariant: what was read and what is left say what the whole block says.
use Prim.Native.Nat.{◌+◌}
use mathlib.Core.Path.{◌≡◌}
use mathlib.Core.Bool.{◌&&◌}
use Rattle.laws.specs.Lists.{all}
use Rattle.laws.specs.Bytes.{between}
use Rattle.text_lines.specs.Lines.{not_byte}
use Rattle.text_lines.proofs.lacks.Given as goal

abbrev pub invariant-loop-j : goal.invariant-loop-j
invariant-loop-j l = (l.none && all (not_byte l.b) (between l.text (l.at + l.j) (l.at + 16))) ≡ all (not_byte l.b) (between l.text l.at (l.at + 16))
