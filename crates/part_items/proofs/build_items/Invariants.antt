-- `part_items::build_items` meets its contract.
use Rattle.field_keys.specs.Passed.{key_as}
use Rattle.part_items.proofs.Turns.{Going}
use Rattle.part_items.proofs.build_items.Given as goal

abbrev pub invariant-loop-i : goal.invariant-loop-i
invariant-loop-i l = Going l.edition l.text l.t (key_as l.header) l.part l.n l.initial.scratch l.scratch l.r l.i
