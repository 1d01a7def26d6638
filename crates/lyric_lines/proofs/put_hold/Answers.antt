-- `lyric_lines::put_hold` meets its contract.
use native.Mathlib.Omega.{arith}
use Rattle.lyric_lines.proofs.Words.{held_none, held_row}
use Rattle.lyric_lines.proofs.put_hold.Goals as goal

pub returns-then-place-eq0 : goal.returns-then-place-eq0
returns-then-place-eq0 c =
    let a = c.args in
    held_none a.scratch.now a.sheet a.verse a.place c.requires.kept c.if-place-eq0.true

pub append_row-requires : goal.append_row-requires
append_row-requires c = (c.requires, omega arith, omega arith)

pub returns : goal.returns
returns c =
    let a = c.args in
    held_row a.scratch.now _ a.sheet a.verse a.place _ c.if-place-eq0.false (rw c.code_of.ensures at c.append_row.ensures)
