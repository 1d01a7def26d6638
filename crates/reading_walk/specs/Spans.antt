-- THE MEASURES OF A PART AS A PLAYER SEES THEM, read off its records: "A measure in a volta span (its passes are its first measure's)".
use Rattle.std.specs.Prelude.{ℕ, zero, suc, cond, List, [], ◌∷◌, ◌++◌, eqb}
use Rattle.std.proofs.Math.Option.{Option, none, some}
use Rattle.laws.specs.Bytes.{u32_at}
use Rattle.reader.specs.Records.{measure_width}
use Rattle.reading_sections.specs.Sections.{record_at, left_of, right_of, volta_of, passes_of}
use Rattle.reading_walk.specs.Walk.{Bar}

-- the span of a measure with volta v and passes ps, before which the span o is open: it begins one (1), is one alone (3), or lies in o
unfoldable pub span_at : Option ℕ → ℕ → ℕ → Option ℕ
span_at o v ps = cond (eqb v 1) (some ps) (cond (eqb v 3) (some ps) o)

-- the span that is open behind it: one that begins, or o while it does not end
unfoldable pub span_after : Option ℕ → ℕ → ℕ → Option ℕ
span_after o v ps = cond (eqb v 1) (some ps) (cond (eqb v 0) o none)

-- the span that is open before measure i, from 0, of the part that begins at `at`
unfoldable pub open_before : List ℕ → ℕ → ℕ → Option ℕ
open_before s at zero = none
open_before s at (suc i) = let r = record_at measure_width at i in span_after (open_before s at i) (volta_of s r) (passes_of s r)

-- measure i
unfoldable pub bar_at : List ℕ → ℕ → ℕ → Bar
bar_at s at i =
    let r = record_at measure_width at i in record { left = left_of s r; right = right_of s r; span = span_at (open_before s at i) (volta_of s r) (passes_of s r) }

-- the first n
unfoldable pub first_bars : List ℕ → ℕ → ℕ → List Bar
first_bars s at zero = []
first_bars s at (suc n) = first_bars s at n ++ (bar_at s at n ∷ [])

-- all measures of the part
unfoldable pub bars_of : List ℕ → ℕ → List Bar
bars_of s at = first_bars s at (u32_at s at)
