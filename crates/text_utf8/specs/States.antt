-- The states of the reading of UTF-8, as the code has them.
use Rattle.reader.specs.Text.{Utf8, between, one, two, three, after_e0, after_ed, after_f0, after_f4, invalid}
use Rattle.text_utf8.specs.declared.Utf8 as code
use Rattle.text_utf8.specs.declared.Utf8.TheVariants as U

abbrev pub as_utf8 : code.Utf8 → Utf8
as_utf8 U.Between = between
as_utf8 U.One = one
as_utf8 U.Two = two
as_utf8 U.Three = three
as_utf8 U.AfterE0 = after_e0
as_utf8 U.AfterED = after_ed
as_utf8 U.AfterF0 = after_f0
as_utf8 U.AfterF4 = after_f4
as_utf8 U.Invalid = invalid
