-- `part_bars::on_volta` meets its contract.
use Rattle.part_bars.proofs.Heads.{represented_heads, volta_simulates}
use native.Mathlib.Omega.{arith}
use Rattle.part_bars.proofs.on_volta.Goals as goal

pub overflow_sub-i : goal.overflow_sub-i
overflow_sub-i c = omega (arith, represented_heads c.requires.1)

pub set_volta-requires : goal.set_volta-requires
set_volta-requires c = let room = c.requires.0 in omega (arith, room, represented_heads c.requires.1)

pub returns : goal.returns
returns c =
    let a = c.args in
    volta_simulates c.requires.0 c.requires.1 _ a.first a.passes (rw c.from-code.ensures at c.set_volta.ensures)
