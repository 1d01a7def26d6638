-- `lyrics::append_row` meets its contract.
use native.Mathlib.Omega.{arith}
use Rattle.lyrics.proofs.Sheets.{row_appended, none_appended}
use Rattle.lyrics.proofs.append_row.Goals as goal

pub returns-then-note-sheet : goal.returns-then-note-sheet
returns-then-note-sheet c =
    let a = c.args in
    let p = c.requires in
    let e = c.get_u32-next.ensures in
    row_appended a.scratch.now _ _ a.sheet a.note a.row _ p.0 c.if-note-sheet.true e c.put_row.ensures c.put_u32.ensures p.1 p.2 c.get_u32-next.type_inv

pub returns : goal.returns
returns c =
    let a = c.args in
    let left = c.if-note-sheet.false in
    none_appended a.scratch.now a.sheet a.note a.row c.requires.0.kept (omega arith)
