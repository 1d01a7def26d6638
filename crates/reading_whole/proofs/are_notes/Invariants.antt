-- `reading_whole::are_notes` meets its contract: so far the notes below i are tested, and their pitches taken.
use Prim.Native.Nat.{◌+◌, ◌≤◌}
use Rattle.laws.specs.Bytes.{u32_at}
use Rattle.reader.specs.Records.{note_width}
use Rattle.reading_records.specs.Fields.{pitches_field}
use Rattle.reading_sections.specs.Sections.{record_at}
use Rattle.reading_whole.specs.Whole.{is_note}
use Rattle.reading_whole.proofs.Records.{Taken}
use Rattle.reading_whole.proofs.are_notes.Given as goal

abbrev pub invariant-loop-i : goal.invariant-loop-i
invariant-loop-i l =
    (l.i ≤ l.count) × Taken (λ i. is_note l.reading (record_at note_width l.at i)) (λ i. u32_at l.reading (record_at note_width l.at i + pitches_field)) l.pitches l.fine l.left l.i
