-- Barlines as the code has them.
use Rattle.std.specs.Prelude.{ℕ, ◌+◌, length}
use Rattle.std.proofs.Math.Option.{Option, none, some}
use Rattle.standard.specs.Bars as standard
use Rattle.standard.specs.Bars.{normal, repeat_start, repeat_end, repeat_both, double, final, Symbol}
use Rattle.reader.specs.Barlines.{left_of}
use Rattle.token_symbols.specs.declared.Barline.{Barline}
use Rattle.token_symbols.specs.declared.Barline.TheVariants.{Normal, RepeatStart, RepeatEnd, RepeatBoth, Double, Final}
use Rattle.std.specs.Prelude as code
use Rattle.text_bytes.specs.declared.Read.{Read}
use Rattle.token_symbols.specs.declared.Bar.{Bar}

-- the code's for the definition's
abbrev pub barline_for : standard.Barline → Barline
barline_for normal = Normal
barline_for repeat_start = RepeatStart
barline_for repeat_end = RepeatEnd
barline_for repeat_both = RepeatBoth
barline_for double = Double
barline_for final = Final

-- the definition's for the code's
abbrev pub as_barline : Barline → standard.Barline
as_barline Normal = normal
as_barline RepeatStart = repeat_start
as_barline RepeatEnd = repeat_end
as_barline RepeatBoth = repeat_both
as_barline Double = double
as_barline Final = final

-- the left barline of the measure behind it
abbrev pub left_for : Barline → Barline
left_for b = barline_for (left_of (as_barline b))

-- a barline, by the right one and the left one, with the position after it
abbrev pub bar_read : Barline → Barline → ℕ → code.Option (Read Bar)
bar_read right left next = code.Some (record { value = record { right = right; left = left }; next = next })

-- the bar symbol at a position
abbrev pub bar_for : ℕ → Option Symbol → code.Option (Read Bar)
bar_for at none = code.None
bar_for at (some x) = bar_read (barline_for x.barline) (barline_for (left_of x.barline)) (at + length x.text)
