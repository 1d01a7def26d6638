-- `abc_parts::write_part` meets its contract.
use Rattle.abc_parts.proofs.Reading.{stops_room, part_stands, part_wrote, sung_items, sung_length}
use Rattle.field_keys.specs.Passed.{key_as}
use Rattle.abc_parts.proofs.write_part.Goals as goal

pub sing_part-sheet-requires : goal.sing_part-sheet-requires
sing_part-sheet-requires c =
    let a = c.args in
    let t = c.size_part-t.result in
    let d = c.read_part-d in
    (d.ensures.sheet, stops_room a.edition a.text.now a.scratch.now a.n a.part (key_as a.key) t _ d.result d.ensures)

pub write_sections-requires : goal.write_sections-requires
write_sections-requires c =
    let a = c.args in
    let t = c.size_part-t.result in
    let d = c.read_part-d in
    let u = c.sing_part-sheet in
    part_stands a.edition a.text.now a.scratch.now a.n a.part (key_as a.key) t _ d.result d.ensures _ u.result u.ensures.0 u.ensures.1

pub returns : goal.returns
returns c =
    let a = c.args in
    let t = c.size_part-t.result in
    let d = c.read_part-d in
    let u = c.sing_part-sheet in
    let header = key_as a.key in record {
      wrote_is = part_wrote a.edition a.text.now a.scratch.now a.n a.part header t _ d.result d.ensures _ u.result u.ensures.0 u.ensures.1 c.write_sections.ensures;
      items_unchanged = (
        sung_items a.edition a.text.now a.scratch.now a.n a.part header t _ d.result d.ensures _ u.result u.ensures.0 u.ensures.1,
        sung_length a.edition a.text.now a.scratch.now a.n a.part header t _ d.result d.ensures _ u.result u.ensures.0 u.ensures.1,
      );
    }
