-- `write_syllables::write_syllable_records` meets its contract: what is said of the chain is said of the note whose chain it is.
use mathlib.Core.Path.{sym, ap, ◌∙◌}
use mathlib.Core.Bool.{false}
use native.Mathlib.Omega.{arith}
use Rattle.store_sections.proofs.Writes.{start}
use Rattle.write_notes.proofs.Out.{wrote_as_lem}
use Rattle.lyrics.specs.Sheet.{syllables_in}
use Rattle.lyrics.proofs.Sheets.{how_many}
use Rattle.write_syllables.specs.Pieces.{pieces}
use Rattle.write_syllables.proofs.Pieces.{pieces_past, sole_none, sole_one, sole_in}
use Rattle.write_syllables.proofs.write_syllable_records.Goals as goal

-- past the last of the sheet
pub returns-then-sheet-sung : goal.returns-then-sheet-sung
returns-then-sheet-sung c =
    let a = c.args in
    let w = a.words.now in
    wrote_as_lem (start _) (sym (pieces_past false a.note (syllables_in w.text.now w.store.now w.sheet) a.sung (omega (arith, how_many w.text.now w.store.now w.sheet, c.if-sheet-sung.true))))

pub sole_syllable-requires : goal.sole_syllable-requires
sole_syllable-requires c = omega (arith, c.head-k.ensures.low, c.args.words.now.sheet_in.tables.log)

pub write_record-requires : goal.write_record-requires
write_record-requires c =
    let w = c.args.words.now in
    (sole_in w.text.now w.store.now w.sheet.log c.head-k.result _ _ c.sole_syllable.ensures c.in-One.is).0

pub write_verses-requires : goal.write_verses-requires
write_verses-requires c = omega (arith, c.head-k.ensures.low, c.args.words.now.sheet_in.tables.log)

-- no row
pub returns-in-Nothing : goal.returns-in-Nothing
returns-in-Nothing c =
    let a = c.args in
    let w = a.words.now in
    let head = c.head-k in
    wrote_as_lem (start _) (sym (sole_none false a.note w.text.now w.store.now w.sheet.log head.result _ c.sole_syllable.ensures c.in-Nothing.is) ∙ ap (pieces false a.note) (sym (head.ensures.sung w.text.now)))

-- one
pub returns-in-One : goal.returns-in-One
returns-in-One c =
    let a = c.args in
    let w = a.words.now in
    let head = c.head-k in
    let inside = sole_in w.text.now w.store.now w.sheet.log head.result _ _ c.sole_syllable.ensures c.in-One.is in
    wrote_as_lem (c.write_record.ensures w.text.now inside.1) (sym (sole_one false a.note w.text.now w.store.now w.sheet.log head.result _ _ c.sole_syllable.ensures c.in-One.is) ∙ ap (pieces false a.note) (sym (head.ensures.sung w.text.now)))

-- several
pub returns-in-Several : goal.returns-in-Several
returns-in-Several c =
    let a = c.args in
    let w = a.words.now in
    wrote_as_lem c.write_verses.ensures (ap (pieces false a.note) (sym (c.head-k.ensures.sung w.text.now)))
