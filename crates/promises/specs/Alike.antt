-- WHERE BOTH EDITIONS READ A TEXT ALIKE (document 02, T-03 and T-04): one test for each rule by which the second edition reads otherwise than the first. A text that passes them has one answer,
-- whatever the stores (`same_reading` in proofs/Alike); none can be left out (proofs/AlikeNeeded).
use Rattle.std.specs.Prelude.{ℕ, zero, suc, ◌+◌, pred, max, ◌≡◌, Bool, true, false, cond, not, ◌&&◌, ◌||◌, List, [], ◌∷◌, map, eqb, ltb, length, drop}
use Rattle.std.proofs.Math.Option.{none, some}
use Rattle.laws.specs.Lists.{all, any, elem, all_below, count_while}
use Rattle.standard.specs.Bytes.{ascii, is, is_digit, first}
use Rattle.standard.specs.Keys.{Key, plain_key}
use Rattle.standard.specs.Pitches.{is_letter}
use Rattle.editions.specs.declared.Edition.TheVariants.{First, Second}
use Rattle.reader.specs.Text.{within, text_lines, clean}
use Rattle.reader.specs.Pieces.{words, white_at}
use Rattle.reader.specs.Keys.{key_of}
use Rattle.reader.specs.Lengths.{two_slashes}
use Rattle.reader.specs.Pitches.{octave_of, accidental_of}
use Rattle.reader.specs.Token.{Token, space, overlay, quoted, broken, tuplet, slur, grace_open, grace_close, decoration, barline, volta, unit, meter, key, field, chord, rest, note, nothing, skipped, refused}
use Rattle.reader.specs.Tuplets.{positive}
use Rattle.reader.specs.Inline.{is_inline}
use Rattle.reader.specs.Tokens.{Class, white, ampersand, quote, more, less, paren, brace_open, brace_close, bang, plus, bars, bracket, pitched, none-of-these, resting, class_of, token_of, tokens}
use Rattle.reader.specs.Lines.{is_k, is_lyric, is_field}
use Rattle.reader.specs.Steps.{refuse, on, items_of}
use Rattle.reader.specs.Scan.{Item, voice_declared, reset, key_in_header, key_change, meter_change, lyric_line, music_line, Out, scan}
use Rattle.promises.specs.Refusals.{bracketed, after_bracket}

-- MODES: the value of a K field is the same key in both editions. So it is within seven sharps or flats, as every key of the first
abbrev pub eq_key : Key → Key → Bool
eq_key k l = eqb k.fifths l.fifths && cond k.minor l.minor (not l.minor)

abbrev pub same_key : List ℕ → Bool
same_key v = eq_key (key_of First v) (key_of Second v)

-- a line, cut and trimmed: if it is a K line
abbrev pub key_alike : List ℕ → Bool
key_alike l = cond (is_k l) (same_key (drop 2 l)) true

-- TUPLETS. No part after a `:` is empty: s stands where the `:` may stand
abbrev pub not_empty : List ℕ → Bool
not_empty s = cond (is ":" (first s)) (is_digit (first (drop 1 s))) true

-- p from 5 to 9 has its q written; a p below 2 makes a slur start in either edition. s stands behind p
abbrev pub spelled : ℕ → List ℕ → Bool
spelled p s = ltb p 2 || cond (is ":" (first s)) (not_empty s && not_empty (drop (1 + count_while is_digit (drop 1 s)) s)) (not (within 5 9 p))

-- s stands behind the `(`
abbrev pub tuplet_alike : List ℕ → Bool
tuplet_alike s = elim (positive 255 s) [ none ↦ true | some p ↦ spelled p (drop (count_while is_digit s) s) ]

-- SLASHES. No two in a row behind the numerator; s stands where the length begins
abbrev pub length_alike : List ℕ → Bool
length_alike s = not (two_slashes s)

-- a note, whose length stands behind its octave marks; s stands behind the accidental
abbrev pub note_alike : List ℕ → Bool
note_alike [] = true
note_alike (c ∷ s) = cond (is_letter c && (octave_of c s).fine) (length_alike (drop (octave_of c s).used s)) true

-- INLINE K, and a chord, whose length stands behind its `]`; s stands behind the `[`
abbrev pub bracket_alike : List ℕ → Bool
bracket_alike s = cond (is_digit (first s)) true (cond (is_inline s) (key_alike (bracketed s)) (length_alike (after_bracket s)))

-- of a token by the class of its first byte, on which s begins
unfoldable pub class_alike : Class → List ℕ → Bool
class_alike white s = true
class_alike ampersand s = true
class_alike quote s = true
class_alike more s = true
class_alike less s = true
class_alike paren s = tuplet_alike (drop 1 s)
class_alike brace_open s = true
class_alike brace_close s = true
class_alike bang s = true
class_alike plus s = true
class_alike bars s = true
class_alike bracket s = bracket_alike (drop 1 s)
class_alike pitched s = note_alike (drop (accidental_of s).used s)
class_alike none-of-these s = true
class_alike (resting k) s = length_alike (drop 1 s)

-- the tokens of a line from left to right; k: bytes of a token still to pass
unfoldable pub tokens_alike : ℕ → List ℕ → Bool
tokens_alike k [] = true
tokens_alike zero (c ∷ s) = class_alike (class_of c) (c ∷ s) && tokens_alike (pred (token_of First (c ∷ s)).used) s
tokens_alike (suc k) (c ∷ s) = tokens_alike k s

-- a line, cut and trimmed: if it is music
abbrev pub music_alike : List ℕ → Bool
music_alike l = cond (is_lyric l || is_field l) true (tokens_alike 0 l)

-- the lines after the first K line; music before it is not looked at
unfoldable pub body : List (List ℕ) → List (List ℕ)
body [] = []
body (l ∷ ls) = cond (is_k l) ls (body ls)

-- LYRICS, by what goes to a part (`Item`). A lyric line without `|` as a word of its own
abbrev pub no_bar : List ℕ → Bool
no_bar t = not (elem (ascii "|") (words white_at t))

-- a token `{`
unfoldable pub is_grace : Token → Bool
is_grace space = false
is_grace overlay = false
is_grace quoted = false
is_grace (broken up n) = false
is_grace (tuplet t) = false
is_grace slur = false
is_grace grace_open = true
is_grace grace_close = false
is_grace decoration = false
is_grace (barline b o) = false
is_grace (volta ps) = false
is_grace (unit u) = false
is_grace (meter m) = false
is_grace (key k) = false
is_grace field = false
is_grace (chord ws l b) = false
is_grace (rest k l) = false
is_grace (note w l b) = false
is_grace nothing = false
is_grace skipped = false
is_grace (refused n) = false

-- a music line without one
abbrev pub no_grace : List ℕ → Bool
no_grace l = not (any is_grace (tokens First 0 l))

abbrev pub is_lyric_line : Item → Bool
is_lyric_line (voice_declared b) = false
is_lyric_line reset = false
is_lyric_line key_in_header = false
is_lyric_line (key_change k) = false
is_lyric_line (meter_change m) = false
is_lyric_line (lyric_line b t) = true
is_lyric_line (music_line u m l) = false

-- a lyric line without bars, a music line without graces, anything else
abbrev pub is_plain : Item → Bool
is_plain (voice_declared b) = true
is_plain reset = true
is_plain key_in_header = true
is_plain (key_change k) = true
is_plain (meter_change m) = true
is_plain (lyric_line b t) = no_bar t
is_plain (music_line u m l) = no_grace l

-- a part: no lyric line, or neither lyric bars nor graces
abbrev pub sung_alike : List Item → Bool
sung_alike is = not (any is_lyric_line is) || all is_plain is

-- THE HEADER'S KEY. A part first named before the first K line hears a K line, that one or a later one, before its first music line. apart: it has not yet
unfoldable pub hears_key : Bool → List Item → Bool
hears_key apart [] = true
hears_key apart (voice_declared in_header ∷ is) = hears_key in_header is
hears_key apart (reset ∷ is) = hears_key apart is
hears_key apart (key_in_header ∷ is) = hears_key false is
hears_key apart (key_change k ∷ is) = hears_key false is
hears_key apart (meter_change m ∷ is) = hears_key apart is
hears_key apart (lyric_line b t ∷ is) = hears_key apart is
hears_key apart (music_line u m l ∷ is) = not apart && hears_key apart is

-- or the header's key is C major
abbrev pub header_alike : Key → List Item → Bool
header_alike header is = eq_key header plain_key || hears_key false is

-- a test of the header's key and each part's items; a refused text has no parts
abbrev pub each_part : (Key → List Item → Bool) → Out → Bool
each_part f (refuse n l) = true
each_part f (on s a) = all_below (max 1 (length s.env.voices)) (λ p. f s.env.header_key (items_of p a))

-- ALIKE
pub record Alike (text : List ℕ) : Type 0 where
  -- "the modes .. are read": every K line is the same key in both editions
  pub keys : all key_alike (map clean (text_lines text)) ≡ true
  -- "tuplets of 5, 7 and 9 .., 6 .. 8", "an empty part after `:`", inline K, "two or more slashes in a row": no music line after the first K line has one that differs
  pub music : all music_alike (body (map clean (text_lines text))) ≡ true
  -- "grace notes take no syllable; a lyric `|` moves": each part has no lyric line, or neither lyric bars nor graces
  pub sung : each_part (λ header is. sung_alike is) (scan First (text_lines text)) ≡ true
  -- "the header key holds for every voice": it is C major, or each part named before the first K line hears a K line before its first music line
  pub header : each_part header_alike (scan First (text_lines text)) ≡ true
