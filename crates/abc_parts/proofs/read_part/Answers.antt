-- `abc_parts::read_part` meets its contract.
use Rattle.abc_parts.proofs.Reading.{part_read}
use Rattle.field_keys.specs.Passed.{key_as}
use Rattle.abc_parts.proofs.read_part.Goals as goal

pub returns : goal.returns
returns c =
    let a = c.args in
    let p = c.requires in
    let b = c.build_items-r in
    let e = c.end_part-count.ensures in
    part_read a.edition a.text.now a.scratch.now a.n a.part (key_as a.key) a.t p.1 _ b.result b.ensures p.0 _ _ e.upper_bound.1 e.value e.upper_bound.0
