-- `write_pitches::write_records` meets its contract: measure after measure.
use Prim.Native.Nat.{◌+◌, ◌-◌, ◌*◌, ◌≤◌}
use mathlib.Core.Path.{◌≡◌}
use lib.ListN.{length}
use Rattle.reader.specs.Records.{measure_width}
use Rattle.part_rows.specs.Encoded.{note_row_width, pitch_row_width}
use Rattle.write_notes.proofs.Written.{Written}
use Rattle.part_measures.specs.Heads.{total}
use Rattle.write_notes.specs.Tables.{pitch_total}
use Rattle.write_pitches.specs.Out.{pitches_out}
use Rattle.write_pitches.proofs.write_records.Given as goal

abbrev pub invariant-loop-measure : goal.invariant-loop-measure
invariant-loop-measure l =
    (l.p + note_row_width * total l.store (l.t.measures.at + measure_width * l.measure) (l.t.measures.count - l.measure) ≤ length l.store) × (l.q + pitch_row_width * pitch_total l.store l.p (total l.store (l.t.measures.at + measure_width * l.measure) (l.t.measures.count - l.measure)) ≤ length l.store) × (length l.to ≡ length l.initial.to)
    × Written l.initial.to (pitches_out l.store l.t.measures.at l.t.notes.at l.t.pitches.at l.t.measures.count) (pitches_out l.store (l.t.measures.at + measure_width * l.measure) l.p l.q (l.t.measures.count - l.measure)) l.to l.at
