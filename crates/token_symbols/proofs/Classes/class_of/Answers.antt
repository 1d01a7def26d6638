-- `token_symbols::Classes::class_of` meets its contract.
use Prim.Native.Nat.{◌<◌, ◌≤◌}
use mathlib.Core.Path.{sym}
use native.Mathlib.Omega.{arith}
use Rattle.token_symbols.proofs.Table.{table_at, high_skipped}
use Rattle.token_symbols.proofs.Classes.class_of.Goals as goal

pub returns-then-k-lt128 : goal.returns-then-k-lt128
returns-then-k-lt128 c =
    let a = c.args in
    let h : a.b < 128 = omega arith in
    rw c.args.self.now.is_table (table_at a.b h)

pub returns-else-k-lt128 : goal.returns-else-k-lt128
returns-else-k-lt128 c =
    let h : 128 ≤ c.args.b = omega arith in
    sym (high_skipped c.args.b h (omega arith))
