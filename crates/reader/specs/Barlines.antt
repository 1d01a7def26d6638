-- BARLINES (ABC 2.1, 4.8; 000, parse_barline).
use Rattle.std.specs.Prelude.{ℕ, not, List, length, drop}
use Rattle.std.proofs.Math.Option.{Option, none, some}
use Rattle.standard.specs.Bytes.{is, first}
use Rattle.standard.specs.Bars.{Barline, normal, repeat_start, repeat_end, repeat_both, double, final, Symbol, bar_symbols, symbol_at}
use Rattle.reader.specs.Token.{barline, skipped, Taken, taken}

-- the left barline of the measure behind it: `|:`, `::` and `||` stand there too
abbrev pub left_of : Barline → Barline
left_of normal = normal
left_of repeat_start = repeat_start
left_of repeat_end = normal
left_of repeat_both = repeat_both
left_of double = double
left_of final = normal

-- a lone `:` means nothing; "No new measure opens if `]` follows"
unfoldable pub barline_as : List ℕ → Option Symbol → Taken
barline_as s none = taken skipped 1
barline_as s (some x) = taken (barline x.barline (not (is "]" (first (drop (length x.text) s))))) (length x.text)

-- a barline at the front of s, which begins with `|` or `:`
unfoldable pub barline_of : List ℕ → Taken
barline_of s = barline_as s (symbol_at bar_symbols s)
