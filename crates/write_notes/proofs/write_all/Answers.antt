-- `write_notes::write_all` meets its contract: row by row where all rows are of voice 0.
use mathlib.Core.Path.{sym, ◌∙◌}
use Rattle.write_notes.proofs.Out.{wrote_as_lem}
use Rattle.write_notes.proofs.Leads.{lead_measures}
use Rattle.write_notes.proofs.write_all.Goals as goal

pub returns-then-part : goal.returns-then-part
returns-then-part c =
    let p = c.args.part.now in
    let t = p.tables in
    wrote_as_lem c.write_rows.ensures (lead_measures p.store.now t.measures.at t.notes.at t.measures.count t.notes.count (sym p.within.all_notes_lem) (sym p.lead_is ∙ c.if-part.true))
