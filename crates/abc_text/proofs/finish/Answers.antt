-- `abc_text::finish` meets its contract: no measure, or the parts written and the rest cleared.
use borrow.Author.Rules.{rules}
use Rattle.laws.proofs.Bools.{not_true, not_false}
use Rattle.store_sections.proofs.Writes.{reached_in, filled}
use Rattle.abc_text.proofs.Tests.{cleared}
use Rattle.abc_text.proofs.Room.{rooms_left}
use Rattle.abc_text.proofs.Second.{silent_parsed, written_parsed}
use Rattle.abc_text.proofs.finish.Goals as goal

pub returns-then-not-h : goal.returns-then-not-h
returns-then-not-h c =
    let a = c.args in
    silent_parsed _ a.text.now a.scratch.now a.h c.requires.done _ _ _ _ _ (not_true _ c.if-not-h.true) c.refuse.ensures

pub write_parts-w-requires : goal.write_parts-w-requires
write_parts-w-requires c =
    let a = c.args in
    let p = c.requires in
    rooms_left _ a.text.now a.scratch.now a.h p.done p.text_len_bound.0 p.text_len_bound.1

pub seal-requires : goal.seal-requires
seal-requires c = reached_in c.write_parts-w.ensures (search rules)

pub returns : goal.returns
returns c =
    let a = c.args in
    rw c.ok_or.ensures.value
    (written_parsed _ a.text.now a.scratch.now a.h c.requires.done _ _ _ _ _ (not_false _ c.if-not-h.false)
    (filled (rw c.count_parts-count.ensures at c.write_parts-w.ensures) (search rules) c.seal.ensures)
    (cleared _ _ _ c.clear.ensures (search rules)))
