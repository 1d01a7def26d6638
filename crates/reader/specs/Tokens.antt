-- THE TOKENS OF A MUSIC LINE, which is cut and trimmed. A token is a function of what stands from its first byte on; the line alone decides them.
use Rattle.std.specs.Prelude.{ℕ, zero, suc, ◌+◌, pred, Bool, true, false, not, List, [], ◌∷◌, map, ltb, length, drop}
use Rattle.laws.specs.Lists.{count_while}
use Rattle.standard.specs.Bytes.{is, is_digit, first}
use Rattle.standard.specs.Fields.{Meter}
use Rattle.standard.specs.Pitches.{is_letter}
use Rattle.standard.specs.Notes
use Rattle.standard.specs.Notes.{NoteKind}
use Rattle.editions.specs.declared.Edition.{Edition}
use Rattle.reader.specs.Text.{is_space}
use Rattle.reader.specs.Token.{Token, space, overlay, quoted, broken, tuplet, slur, grace_open, grace_close, decoration, barline, volta, unit, meter, key, field, chord, rest, note, nothing, skipped, refused, Taken, taken}
use Rattle.reader.specs.Tuplets.{tuplet_of, or_slur}
use Rattle.reader.specs.Barlines.{barline_of}
use Rattle.reader.specs.PassLists.{volta_of}
use Rattle.reader.specs.Inline.{is_inline, inline_at}
use Rattle.reader.specs.Sounds.{chord_at, rest_as, note_of}

-- QUOTES AND DECORATIONS: to the next byte that passes, with it; s stands behind the first one. If there is none: `other`
unfoldable pub closed_by : (ℕ → Bool) → Token → List ℕ → Taken → Taken
closed_by p t s other = let n = count_while (λ c. not (p c)) s in elim (ltb n (length s)) [ true ↦ taken t (2 + n) | false ↦ other ]

-- a quoted text: to its closing quote or, unclosed, to the line's end
abbrev pub quoted_of : List ℕ → Taken
quoted_of s = closed_by (is "\"") quoted (drop 1 s) (taken quoted (length s))

-- BROKEN RHYTHM, n signs. Refusal 13: "more than 255 equal `>` or `<` together"
unfoldable pub broken_of : Bool → ℕ → List ℕ → Taken
broken_of up n s = elim (ltb 255 n) [ true ↦ taken (refused 13) (length s) | false ↦ taken (broken up n) n ]

-- `[`: first a digit, then a field, then a chord (000's order of tests); s stands behind it
unfoldable pub bracket_of : Edition → List ℕ → Taken
bracket_of ed s = elim (is_digit (first s)) [ true ↦ volta_of s | false ↦ elim (is_inline s) [ true ↦ inline_at ed s | false ↦ chord_at ed s ] ]

-- THE CLASS OF A BYTE ("A table of 128 letter classes starts with every entry at "skipped"")
pub data Class : Type 0 where
  white ampersand quote more less paren brace_open brace_close bang plus bars bracket pitched none-of-these : Class
  resting : NoteKind → Class

-- each class with its bytes
unfoldable pub classes : List ((ℕ → Bool) × Class)
classes =
    (is_letter, pitched)
    ∷ (is "^", pitched)
    ∷ (is "_", pitched)
    ∷ (is "=", pitched)
    ∷ (is_space, white)
    ∷ (is "&", ampersand)
    ∷ (is "\"", quote)
    ∷ (is ">", more)
    ∷ (is "<", less)
    ∷ (is "(", paren)
    ∷ (is "{", brace_open)
    ∷ (is "}", brace_close)
    ∷ (is "!", bang)
    ∷ (is "+", plus)
    ∷ (is "|", bars)
    ∷ (is ":", bars)
    ∷ (is "[", bracket)
    ∷ (is "z", resting Notes.rest)
    ∷ (is "x", resting Notes.invisible_rest)
    ∷ (is "Z", resting Notes.bar_rest)
    ∷ (is "X", resting Notes.invisible_bar_rest)
    ∷ []

-- the first class whose test the byte passes
unfoldable pub class_in : List ((ℕ → Bool) × Class) → ℕ → Class
class_in [] c = none-of-these
class_in (e ∷ es) c = elim (e.0 c) [ true ↦ e.1 | false ↦ class_in es c ]

-- the class of a byte
unfoldable pub class_of : ℕ → Class
class_of c = class_in classes c

-- the token at the front of s, which begins with a byte of this class
unfoldable pub token_as : Edition → Class → List ℕ → Taken
token_as ed white s = taken space 1
token_as ed ampersand s = taken overlay 1
token_as ed quote s = quoted_of s
token_as ed more s = broken_of true (suc (count_while (is ">") (drop 1 s))) s
token_as ed less s = broken_of false (suc (count_while (is "<") (drop 1 s))) s
token_as ed paren s = or_slur (tuplet_of ed (drop 1 s))
token_as ed brace_open s = taken grace_open 1
token_as ed brace_close s = taken grace_close 1
token_as ed bang s = closed_by (is "!") decoration (drop 1 s) (taken skipped 1)
token_as ed plus s = closed_by (is "+") decoration (drop 1 s) (taken skipped 1)
token_as ed bars s = barline_of s
token_as ed bracket s = bracket_of ed (drop 1 s)
token_as ed pitched s = note_of ed s
token_as ed none-of-these s = taken skipped 1
token_as ed (resting k) s = rest_as ed k (drop 1 s)

-- THE TOKEN at the front
unfoldable pub token_of : Edition → List ℕ → Taken
token_of ed s = token_as ed (class_of (first s)) s

-- the tokens from left to right; k: bytes of a token still to pass
unfoldable pub tokens : Edition → ℕ → List ℕ → List Token
tokens ed k [] = []
tokens ed zero (c ∷ s) = let t = token_of ed (c ∷ s) in t.token ∷ tokens ed (pred t.used) s
tokens ed (suc k) (c ∷ s) = tokens ed k s

-- WHAT THE SCAN OF THE WHOLE TEXT WANTS OF A TOKEN: a note counted, a refusal by its number, L set, M set; or nothing
pub data Effect : Type 0 where
  counts : Effect
  refuses : ℕ → Effect
  sets_unit : ℕ → Effect
  sets_meter : Meter → Effect
  no_effect : Effect

unfoldable pub effect_of : Token → Effect
effect_of space = no_effect
effect_of overlay = no_effect
effect_of quoted = no_effect
effect_of (broken up n) = no_effect
effect_of (tuplet t) = no_effect
effect_of slur = no_effect
effect_of grace_open = no_effect
effect_of grace_close = no_effect
effect_of decoration = no_effect
effect_of (barline b o) = no_effect
effect_of (volta ps) = no_effect
effect_of (unit u) = sets_unit u
effect_of (meter m) = sets_meter m
effect_of (key k) = no_effect
effect_of field = no_effect
effect_of (chord ps l b) = counts
effect_of (rest k l) = counts
effect_of (note p l b) = counts
effect_of nothing = no_effect
effect_of skipped = no_effect
effect_of (refused n) = refuses n

-- the line as the scan of the whole text sees it
unfoldable pub effects : Edition → List ℕ → List Effect
effects ed line = map effect_of (tokens ed 0 line)
