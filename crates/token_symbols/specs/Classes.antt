-- The classes of bytes as the code has them, and the table of the first 128.
use Rattle.std.specs.Prelude.{ℕ, zero, suc, List, [], ◌∷◌}
use Rattle.standard.specs.Notes as Notes
use Rattle.reader.specs.Tokens as reader
use Rattle.reader.specs.Tokens.{white, ampersand, quote, more, less, paren, brace_open, brace_close, bang, plus, bars, bracket, pitched, none-of-these, resting, class_of}
use Rattle.token_symbols.specs.declared.Class.{Class}
use Rattle.token_symbols.specs.declared.Class.TheVariants.{Skip, White, Ampersand, Quote, More, Less, Paren, BraceOpen, BraceClose, Bang, Plus, Bars, Bracket, Rest, InvisibleRest, BarRest, InvisibleBarRest, Pitched}

-- no letter rests by a sounded note
abbrev pub rest_class : Notes.NoteKind → Class
rest_class Notes.sounded = Skip
rest_class Notes.rest = Rest
rest_class Notes.invisible_rest = InvisibleRest
rest_class Notes.bar_rest = BarRest
rest_class Notes.invisible_bar_rest = InvisibleBarRest

unfoldable pub class_for : reader.Class → Class
class_for none-of-these = Skip
class_for white = White
class_for ampersand = Ampersand
class_for quote = Quote
class_for more = More
class_for less = Less
class_for paren = Paren
class_for brace_open = BraceOpen
class_for brace_close = BraceClose
class_for bang = Bang
class_for plus = Plus
class_for bars = Bars
class_for bracket = Bracket
class_for (resting k) = rest_class k
class_for pitched = Pitched

-- the classes of i, i + 1, .., n of them
unfoldable pub classes_from : ℕ → ℕ → List Class
classes_from i zero = []
classes_from i (suc n) = class_for (class_of i) ∷ classes_from (suc i) n

unfoldable pub class_table : List Class
class_table = classes_from 0 128
