-- `write_lyrics::write_all` meets its contract: all rows at once where all are of voice 0.
use mathlib.Core.Path.{sym, ◌∙◌}
use mathlib.Core.Bool.{false}
use Rattle.lyrics.specs.Sheet.{syllables_in}
use Rattle.write_lyrics.proofs.Leads.{passed_all}
use Rattle.write_lyrics.proofs.write_all.Goals as goal

pub returns-then-part : goal.returns-then-part
returns-then-part c =
    let a = c.args in
    let p = a.part.now in
    let t = p.tables in
    passed_all false (syllables_in a.words.now.text.now a.words.now.store.now a.words.now.sheet) p.store.now t.measures.at t.notes.at t.measures.count t.notes.count (sym p.within.all_notes_lem) (sym p.lead_is ∙ c.if-part.true)
    c.write_rows.ensures
