-- `reading_played::part_at` meets its contract: part i begins at `at`.
use mathlib.Core.Path.{◌≡◌}
use Rattle.reading_records.specs.Widths.{first_part}
use Rattle.reading_sections.specs.Sections.{part_at}
use Rattle.reading_played.proofs.part_at.Given as goal

abbrev pub invariant-loop-i : goal.invariant-loop-i
invariant-loop-i l = l.at ≡ part_at l.reading first_part l.i
