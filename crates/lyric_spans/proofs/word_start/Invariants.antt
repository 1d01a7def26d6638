-- `lyric_spans::word_start` meets its contract.
use mathlib.Core.Path.{◌≡◌}
use Rattle.laws.specs.Bytes.{between}
use Rattle.reader.specs.Pieces.{words, white_at}
use Rattle.lyric_spans.proofs.word_start.Given as goal

abbrev pub invariant-loop-i : goal.invariant-loop-i
invariant-loop-i l = words white_at (between l.text l.at l.end) ≡ words white_at (between l.text l.i l.end)
