-- `lyric_spans::word_end` meets its contract.
use mathlib.Core.Path.{◌≡◌}
use Prim.Native.Nat.{◌+◌}
use Rattle.laws.specs.Bytes.{between}
use Rattle.reader.specs.Pieces.{white_at}
use Rattle.reader.proofs.WordLaws.{stretch}
use Rattle.lyric_spans.proofs.word_end.Given as goal

abbrev pub invariant-loop-i : goal.invariant-loop-i
invariant-loop-i l = l.i + stretch white_at (between l.text l.i l.end) ≡ l.at + stretch white_at (between l.text l.at l.end)
