-- `text_runs::end_while` meets its contract: the search from i on ends where that from `from` on ends.
use mathlib.Core.Path.{◌≡◌}
use mathlib.Core.Bool.{Bool}
use Prim.Native.Nat.{ℕ}
use Rattle.laws.specs.Spans.{end_in}
use Rattle.text_runs.proofs.end_while.Given as goal

abbrev pub invariant-loop-i : goal.invariant-loop-i
invariant-loop-i g l = (p : ℕ → Bool) → ((b : ℕ) (r : Bool) → goal.F-post g l.passes b r → r ≡ p b) → end_in p l.line l.i l.to ≡ end_in p l.line l.from l.to
