-- `lyric_stops::get_stop` meets its contract.
use Prim.Native.Nat.{◌+◌, ◌*◌, ◌%◌, max}
use mathlib.Core.Path.{◌≡◌, sym}
use native.Mathlib.Omega.{arith}
use lib.ListN.{get_or}
use Rattle.std.proofs.lemmas.Grind.{common_steps}
use Rattle.lyric_stops.specs.Stops.{lyric_stop_width, top_at}
use Rattle.lyric_stops.proofs.Table.{stop_over, stop_here}
use Rattle.lyric_stops.proofs.get_stop.Goals as goal

pub returns-then-stops-j : goal.returns-then-stops-j
returns-then-stops-j c =
    let a = c.args in
    (sym (stop_over a.scratch.now a.stops a.j c.if-stops-j.true), omega arith, omega arith)

pub returns : goal.returns
returns c =
    let a = c.args in
    let top = get_or a.scratch.now (a.stops.at + lyric_stop_width * a.j + top_at) 0 in
    let d : c.max.result ≡ max 1 (c.get_u16-low.result + top % 64 * 65536) = grind (arith, common_steps) in
    (rw (c.from.ensures, d, c.get_u16-low.ensures) (sym (stop_here a.scratch.now a.stops a.j c.if-stops-j.false)), omega arith, omega (arith, c.type_inv.scratch (a.stops.at + lyric_stop_width * a.j + top_at)))
