-- `reading_whole::are_pitches` meets its contract: so far the pitches below i are tested.
use Prim.Native.Nat.{◌≤◌}
use mathlib.Core.Path.{◌≡◌}
use Rattle.reader.specs.Records.{pitch_width}
use Rattle.reading_sections.specs.Sections.{record_at}
use Rattle.reading_whole.specs.Whole.{every, is_pitch}
use Rattle.reading_whole.proofs.are_pitches.Given as goal

abbrev pub invariant-loop-i : goal.invariant-loop-i
invariant-loop-i l = (l.i ≤ l.count) × (l.fine ≡ every (λ i. is_pitch l.reading (record_at pitch_width l.at i)) l.i)
