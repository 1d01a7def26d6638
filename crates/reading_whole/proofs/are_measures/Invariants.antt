-- `reading_whole::are_measures` meets its contract: so far the measures below i are tested, their notes taken and their voltas followed.
use Prim.Native.Nat.{◌≤◌}
use mathlib.Core.Path.{◌≡◌}
use Rattle.reader.specs.Records.{measure_width}
use Rattle.reading_sections.specs.Sections.{record_at, notes_in}
use Rattle.reading_fields.specs.Span.{span_of}
use Rattle.reading_whole.specs.Whole.{is_measure, voltas}
use Rattle.reading_whole.proofs.Records.{Taken}
use Rattle.reading_whole.proofs.are_measures.Given as goal

abbrev pub invariant-loop-i : goal.invariant-loop-i
invariant-loop-i l =
    (l.i ≤ l.count)
    × Taken (λ i. is_measure l.reading (record_at measure_width l.at i)) (λ i. notes_in l.reading (record_at measure_width l.at i)) l.notes l.fine l.left l.i
    × (span_of l.volta ≡ voltas l.reading l.at l.i)
