-- `write_lyrics::write_measures` meets its contract: measure after measure.
use Prim.Native.Nat.{◌+◌, ◌-◌, ◌*◌, ◌≤◌}
use mathlib.Core.Path.{◌≡◌}
use mathlib.Core.Bool.{false}
use lib.ListN.{length}
use Rattle.reader.specs.Records.{measure_width}
use Rattle.part_rows.specs.Encoded.{note_row_width}
use Rattle.part_measures.specs.Heads.{total}
use Rattle.write_notes.proofs.Written.{Written}
use Rattle.lyrics.specs.Sheet.{syllables_in}
use Rattle.write_lyrics.specs.Out.{sung_total, measures_out}
use Rattle.write_lyrics.proofs.write_measures.Given as goal

abbrev pub invariant-loop-measure : goal.invariant-loop-measure
invariant-loop-measure l =
    (l.p + note_row_width * total l.store (l.t.measures.at + measure_width * l.measure) (l.t.measures.count - l.measure) ≤ length l.store) × (note_row_width * l.i ≤ l.p) × (l.j ≤ l.i) × (l.j + sung_total l.store (l.t.measures.at + measure_width * l.measure) l.p (l.t.measures.count - l.measure) ≡ sung_total l.store l.t.measures.at l.t.notes.at l.t.measures.count) × (length l.to ≡ length l.initial.to)
    × Written l.initial.to (measures_out false (syllables_in l.words.text.now l.words.store.now l.words.sheet) l.store 0 0 l.t.measures.at l.t.notes.at l.t.measures.count) (measures_out false (syllables_in l.words.text.now l.words.store.now l.words.sheet) l.store l.i l.j (l.t.measures.at + measure_width * l.measure) l.p (l.t.measures.count - l.measure)) l.to l.at
