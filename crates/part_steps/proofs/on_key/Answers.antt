-- `part_steps::on_key` meets its contract.
use Rattle.field_keys.specs.Passed.{key_as}
use Rattle.part_bars.proofs.Heads.{represented_heads}
use Rattle.part_steps.proofs.Measures.{key_simulates}
use native.Mathlib.Omega.{arith}
use Rattle.part_steps.proofs.on_key.Goals as goal

pub overflow_sub-i : goal.overflow_sub-i
overflow_sub-i c = omega (arith, represented_heads c.requires.1)

pub set_key_mark-requires : goal.set_key_mark-requires
set_key_mark-requires c = let room = c.requires.0 in omega (arith, room, represented_heads c.requires.1)

pub returns : goal.returns
returns c =
    key_simulates (key_as c.args.key) c.requires.0 c.requires.1 _ c.set_key_mark.ensures _ c.hear.ensures
