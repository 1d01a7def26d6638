-- `part_bars::on_barline` meets its contract: one law for each way.
use Rattle.laws.proofs.Splices.{length_spliced}
use Rattle.part_bars.proofs.Heads.{represented_heads, simulates_as, empty_simulates, opens_simulates, closed_simulates}
use native.Mathlib.Omega.{arith}
use Rattle.part_bars.proofs.on_barline.Goals as goal

pub overflow_sub-i : goal.overflow_sub-i
overflow_sub-i c = omega (arith, represented_heads c.requires.1)

pub returns-then-is_empty : goal.returns-then-is_empty
returns-then-is_empty c =
    let a = c.args in
    let room = c.requires.0 in
    let represents = c.requires.1 in
    λ b d f. simulates_as c.end_measure.ensures (empty_simulates room represents b a.opens _ c.is_empty.ensures c.if-is_empty.true a.bar.right d _ c.set_empty_left.ensures)

pub put_measure-requires : goal.put_measure-requires
put_measure-requires c =
    let a = c.args in
    let room = c.requires.0 in
    let represents = c.requires.1 in
    omega (arith, room, represented_heads represents, length_spliced _ _ _ _ c.set_right.ensures)

pub returns-then-opens : goal.returns-then-opens
returns-then-opens c =
    let a = c.args in
    let room = c.requires.0 in
    let represents = c.requires.1 in
    λ b d f.
    simulates_as c.open_measure.ensures
    (opens_simulates room represents b a.opens _ c.is_empty.ensures c.if-is_empty.false a.bar.right d _ c.from.ensures _ c.set_right.ensures c.if-opens.true a.bar.left f _ c.from-left.ensures _ c.put_measure.ensures)

pub returns : goal.returns
returns c =
    let a = c.args in
    let room = c.requires.0 in
    let represents = c.requires.1 in
    λ b d f. simulates_as c.end_measure-2.ensures (closed_simulates room represents b a.opens _ c.is_empty.ensures c.if-is_empty.false a.bar.right d _ c.from.ensures _ c.set_right.ensures c.if-opens.false)
