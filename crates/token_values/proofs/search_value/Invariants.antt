-- `token_values::search_value` meets its contract. Within both loops nothing has met the length, and the count is `Counting`, at 4 × k and at 4 × k + dots.
use mathlib.Core.Path.{◌≡◌}
use Prim.Native.Nat.{◌+◌, ◌*◌, ◌≤◌}
use Rattle.std.specs.Prelude as code
use Rattle.token_values.proofs.Searches.{Counting}
use Rattle.token_values.proofs.search_value.Given as goal

abbrev pub invariant-loop-dots : goal.invariant-loop-dots
invariant-loop-dots l = (l.dots ≤ 4) × (l.met ≡ code.None) × Counting l.length l.parts (4 * l.k + l.dots) l.below

abbrev pub invariant-search : goal.invariant-search
invariant-search l = (l.k ≤ 10) × (l.met ≡ code.None) × Counting l.length l.parts (4 * l.k) l.below
