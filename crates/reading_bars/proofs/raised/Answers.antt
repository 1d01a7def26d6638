-- `reading_bars::raised` meets its contract.
use Prim.Native.Nat.{◌≤◌, ◌<◌, max}
use native.Mathlib.Omega.{arith}
use borrow.Author.Tests.{le-leb, lt-leb}
use Rattle.reading_bars.proofs.raised.Goals as goal

pub returns-then-most-limit : goal.returns-then-most-limit
returns-then-most-limit c =
    let a = c.args in
    let m : max 2 a.top < a.limit.most = omega (arith, c.if-most-limit.true, c.limit_alone-most.ensures) in
    (omega (arith, m), rw (lt-leb a.limit.most (max 2 a.top) m))

pub returns : goal.returns
returns c =
    let a = c.args in
    let e = c.limit_alone-most.ensures in
    let m : a.limit.most ≤ max 2 a.top = omega (arith, c.if-most-limit.false, e) in
    (omega (arith, m, e, c.requires), rw (le-leb a.limit.most (max 2 a.top) m) (omega arith))
