-- `reading_whole::are_lyrics` meets its contract: so far the lyrics below i are tested, and their texts taken.
use Prim.Native.Nat.{◌+◌, ◌≤◌}
use Rattle.laws.specs.Bytes.{u32_at}
use Rattle.reader.specs.Records.{lyric_width}
use Rattle.reading_records.specs.Fields.{text_field}
use Rattle.reading_sections.specs.Sections.{record_at}
use Rattle.reading_whole.specs.Whole.{is_lyric}
use Rattle.reading_whole.proofs.Records.{Taken}
use Rattle.reading_whole.proofs.are_lyrics.Given as goal

abbrev pub invariant-loop-i : goal.invariant-loop-i
invariant-loop-i l =
    (l.i ≤ l.count) × Taken (λ i. is_lyric l.reading l.notes (record_at lyric_width l.at i)) (λ i. u32_at l.reading (record_at lyric_width l.at i + text_field)) l.text l.fine l.left l.i
