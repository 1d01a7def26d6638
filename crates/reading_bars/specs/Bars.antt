-- What the code keeps of a player's measures.
use Rattle.std.specs.Prelude.{ℕ, zero, suc, ◌≤◌, ◌<◌, ◌≡◌, List}
use Rattle.std.proofs.Math.Option.{Option, none, some}
use Rattle.reading_sections.specs.Sections.{left_of, right_of, volta_of, passes_of}
use Rattle.reading_walk.specs.Walk.{limit}
use Rattle.reading_walk.specs.Spans.{span_at, span_after, bars_of}
use Rattle.reading_bars.specs.declared.Bar.{Bar}
use Rattle.reading_bars.specs.declared.Limit.{Limit}

-- a span as a number: 0 is none, else its passes and 1
unfoldable pub span_of : ℕ → Option ℕ
span_of zero = none
span_of (suc ps) = some ps

-- b is the measure whose record stands at r, before which the span `before` is open
pub record BarIs (s : List ℕ) (r before : ℕ) (b : Bar) : Type 0 where
  pub left_is : b.left ≡ left_of s r
  pub right_is : b.right ≡ right_of s r
  pub span_is : span_of b.span ≡ span_at (span_of before) (volta_of s r) (passes_of s r)
  pub after_is : span_of b.after ≡ span_after (span_of before) (volta_of s r) (passes_of s r)

-- l is the limit of every section that starts at measure `from` or behind it, below l's end, in the part at `at`
pub record LimitIs (s : List ℕ) (at from : ℕ) (l : Limit) : Type 0 where
  pub holds : (t : ℕ) → from ≤ t → t < l.end → limit (bars_of s at) t ≡ l.most
