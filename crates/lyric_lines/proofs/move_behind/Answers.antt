-- `lyric_lines::move_behind` meets its contract.
use Prim.Native.Nat.{◌+◌}
use mathlib.Core.Path.{sym, subst}
use native.Mathlib.Omega.{arith}
use Rattle.lyric_stops.specs.declared.Stops.{Stops}
use Rattle.lyric_stops.specs.Stops.{stops_in}
use Rattle.lyric_stops.specs.Walks.{FirstFrom, BackFrom}
use Rattle.lyric_stops.proofs.Table.{how_many}
use Rattle.lyric_lines.specs.Stands.{stops_of, stops_by}
use Rattle.lyric_lines.proofs.Places.{bar_to, bar_over}
use Rattle.lyric_lines.proofs.move_behind.Goals as goal

pub seek_first-first-requires : goal.seek_first-first-requires
seek_first-first-requires c = rw c.stops_of-stops.ensures c.requires.0

pub seek_back-before-requires : goal.seek_back-before-requires
seek_back-before-requires c = rw c.stops_of-stops.ensures (c.requires.0, c.if-first-sheet.true)

pub returns-then-first-sheet : goal.returns-then-first-sheet
returns-then-first-sheet c =
    let a = c.args in
    let h = c.if-first-sheet.true in
    let first = c.seek_first-first.result in
    let sought = subst (λ (t : Stops). FirstFrom (stops_in a.scratch.now t) (a.reached + 1) first) c.stops_of-stops.ensures c.seek_first-first.ensures in
    bar_to (stops_by a.scratch.now a.sheet) a.reached first sought c.seek_back-before.result (omega (arith, h, how_many a.scratch.now (stops_of a.sheet)))
    (subst (λ (t : Stops). BackFrom (stops_in a.scratch.now t) first c.seek_back-before.result) c.stops_of-stops.ensures c.seek_back-before.ensures)

pub returns : goal.returns
returns c =
    let a = c.args in
    let h = c.if-first-sheet.false in
    let first = c.seek_first-first.result in
    let sought = subst (λ (t : Stops). FirstFrom (stops_in a.scratch.now t) (a.reached + 1) first) c.stops_of-stops.ensures c.seek_first-first.ensures in
    bar_over (stops_by a.scratch.now a.sheet) a.reached first sought a.sheet.sounded (sym (how_many a.scratch.now (stops_of a.sheet))) (omega (arith, h, how_many a.scratch.now (stops_of a.sheet)))
