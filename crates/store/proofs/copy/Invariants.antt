-- `store::copy` meets its contract: so far i bytes are copied.
use mathlib.Core.Path.{◌≡◌}
use Rattle.laws.specs.Bytes.{splice, part}
use Rattle.store.proofs.copy.Given as goal

abbrev pub invariant-loop-i : goal.invariant-loop-i
invariant-loop-i l = l.dst ≡ splice l.initial.dst l.at (part l.src l.from l.i)
