-- `write_pitches::write_all` meets its contract: one run where all rows are of voice 0.
use Prim.Native.Nat.{ℕ, ◌*◌}
use mathlib.Core.Path.{◌≡◌, sym, ap, ◌∙◌}
use Rattle.laws.specs.Bytes.{part}
use Rattle.part_rows.specs.Encoded.{pitch_row_width}
use Rattle.write_notes.proofs.Out.{wrote_as_lem}
use Rattle.write_notes.specs.Tables.{pitch_total}
use Rattle.write_pitches.proofs.Leads.{lead_measures}
use Rattle.write_pitches.proofs.write_all.Goals as goal

pub returns-then-part : goal.returns-then-part
returns-then-part c =
    let p = c.args.part.now in
    let s = p.store.now in
    let t = p.tables in
    let i = p.within in
    let all : t.pitches.count ≡ pitch_total s t.notes.at t.notes.count = sym i.all_pitches ∙ ap (pitch_total s t.notes.at) i.all_notes_lem in
    wrote_as_lem c.write_run.ensures
    (ap (λ (k : ℕ). part s t.pitches.at (pitch_row_width * k)) all ∙ lead_measures s t.measures.at t.notes.at t.pitches.at t.measures.count t.notes.count (sym i.all_notes_lem) (sym p.lead_is ∙ c.if-part.true))
