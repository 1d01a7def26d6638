-- The ends of lines, and their classes.
use Rattle.std.specs.Prelude.{ℕ, ◌+◌, ◌<◌, ◌≤◌, ◌≡◌, Bool, cond, not, ◌||◌, List, ◌∷◌, eqb, length, drop}
use Rattle.laws.specs.Lists.{foldl, is_nil}
use Rattle.laws.specs.Bytes.{between}
use Rattle.editions.specs.declared.Edition.{Edition}
use Rattle.reader.specs.Text.{within, White, white_step, is_all_white, text_lines, trim, clean, has_high}
use Rattle.reader.specs.Fields.{meter_of, unit_of}
use Rattle.reader.specs.Tokens.{effects}
use Rattle.reader.specs.Lines.{is_v, is_k, is_l, is_m, is_x, is_lyric, is_field, Kind, blank, refused, lyric, meter, unit, tune, other, music, voice_kind, key_kind}
use Rattle.text_white.specs.declared.White as code
use Rattle.text_white.specs.States.{as_white}
use Rattle.text_lines.specs.declared.Class.{Class}
use Rattle.text_lines.specs.declared.Class.TheVariants as C

-- e is the end of the line at `at`: the lines from `at` on are that line and the lines from e on
pub record LineEnd (text : List ℕ) (at e : ℕ) : Type 0 where
  pub past : at < e
  pub inside : e ≤ length text
  pub rest : text_lines (drop at text) ≡ between text at e ∷ text_lines (drop e text)

-- a byte other than b
abbrev pub not_byte : ℕ → ℕ → Bool
not_byte b c = not (eqb c b)

-- e is the end of the text from `from` to `to` once it is trimmed
pub record TrimEnd (text : List ℕ) (from to e : ℕ) : Type 0 where
  pub low : from ≤ e
  pub high : e ≤ to
  pub line : between text from e ≡ trim (between text from to)

-- e is the end of the line from `from` to `to` once it is cut and trimmed
pub record CleanEnd (text : List ℕ) (from to e : ℕ) : Type 0 where
  pub low : from ≤ e
  pub high : e ≤ to
  pub line : between text from e ≡ clean (between text from to)

-- where a line ends after its byte `at`, whose rest is l: at `end` if the reading goes from q over l to white space, else past `at`
abbrev pub trim_from : White → ℕ → ℕ → List ℕ → ℕ
trim_from q end at l = cond (is_all_white (foldl white_step q l)) end (at + length (trim l))

-- a byte more does not change where the line ends, whatever follows
abbrev pub TrimOn : code.White → ℕ → ℕ → ℕ → code.White → ℕ → Type 0
TrimOn q end b at q' end' = (l : List ℕ) → trim_from (as_white q') end' (at + 1) l ≡ trim_from (as_white q) end at (b ∷ l)

-- THE CLASS OF A LINE, by the reader's tests in their order
abbrev pub field_class : List ℕ → Class
field_class l = cond (is_v l) C.Voice (cond (is_k l) C.Key (cond (is_l l) C.Unit (cond (is_m l) C.Meter (cond (is_x l) C.Tune C.Other))))

abbrev pub class_of : List ℕ → Class
class_of l = cond (is_nil l) C.Blank (cond (is_lyric l) C.Lyric (cond (is_field l) (field_class l) C.Music))

-- the reader's kind of a line of this class, which is not too long
abbrev pub kind_as : Edition → List ℕ → Class → Kind
kind_as ed l C.Blank = blank
kind_as ed l C.Lyric = lyric (drop 2 l)
kind_as ed l C.Voice = cond (has_high l) (refused 6) (voice_kind (drop 2 l))
kind_as ed l C.Key = cond (has_high l) (refused 6) (key_kind ed (drop 2 l))
kind_as ed l C.Unit = cond (has_high l) (refused 6) (unit (unit_of (drop 2 l)))
kind_as ed l C.Meter = cond (has_high l) (refused 6) (meter (meter_of (drop 2 l)))
kind_as ed l C.Tune = tune
kind_as ed l C.Other = other
kind_as ed l C.Music = music (has_high l) (effects ed l) l

-- A to Z, a to z
abbrev pub is_letter : ℕ → Bool
is_letter c = within 65 90 c || within 97 122 c

-- the class of a line of two bytes or more, of which the second is a colon, by its first
abbrev pub colon_class : ℕ → Class
colon_class a =
    cond (eqb a 119) C.Lyric
    (cond (is_letter a)
    (cond (eqb a 86) C.Voice (cond (eqb a 75) C.Key (cond (eqb a 76) C.Unit (cond (eqb a 77) C.Meter (cond (eqb a 88) C.Tune C.Other)))))
    C.Music)
