-- `scan_table::cut_place` meets its contract: a place that lies in the text stays, and what is past the text has no bytes.
use Prim.Native.Nat.{ℕ, ◌<◌, min}
use mathlib.Core.Path.{◌≡◌}
use native.Mathlib.Omega.{arith}
use Rattle.scan_table.specs.Rows.{Cut}
use Rattle.scan_table.proofs.Rows.{cut_past, cut_short}
use Rattle.scan_table.proofs.cut_place.Goals as goal

-- `cut_short`, its beginning known by an equation: arithmetic decides what stands there
kept : (n at end : ℕ) → at < min end n → (from : ℕ) → from ≡ at → Cut n at end (record { at = from; end = min end n })
kept n at end h from e = rw e (cut_short n at end h)

pub returns-then-at-end : goal.returns-then-at-end
returns-then-at-end c =
    let a = c.args in
    let h : a.at < min a.end a.len = omega (arith, c.min-end.ensures) in
    rw c.min-end.ensures (kept a.len a.at a.end h _ (omega arith))

pub returns-else-at-end : goal.returns-else-at-end
returns-else-at-end c =
    let a = c.args in
    cut_past a.len a.at a.end (omega (arith, c.min-end.ensures))
