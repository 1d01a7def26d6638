-- `test_rows::decode` meets its contract: the digit that waits is one, and the bytes written are within `out`.
use Rattle.std.proofs.Common.{◌≤◌, ◌<◌, IfSome, length}
use Rattle.test_rows.proofs.decode.Given as goal

abbrev pub invariant-loop-b : goal.invariant-loop-b
invariant-loop-b l = IfSome l.s.high (λ high. high < 16) × (l.s.n ≤ length l.out)
