-- A lyric line as the code reads it: the words still to come at a cursor, and what a token says.
use Rattle.std.specs.Prelude.{ℕ, ◌+◌, ◌-◌, ◌<◌, ◌≤◌, min, ◌≡◌, Bool, true, false, cond, not, ◌&&◌, ◌||◌, List, [], ◌∷◌, ◌++◌, eqb, leb, length, get_or}
use Rattle.laws.specs.Bytes.{between}
use Rattle.standard.specs.Bytes.{is, first, last}
use Rattle.standard.specs.Lyrics.{Syllabic, single, begins, ends, middle, Word, skip, hold, bar, syllable, syllables, syllable_text}
use Rattle.reader.specs.Text.{is_space}
use Rattle.reader.specs.Pieces.{words, separator, white_at}
use Rattle.reader.specs.Lyrics.{or_skip, word_of, lyric_words}
use Rattle.lyric_spans.specs.Spans.{is_hyphen}
use Rattle.lyric_words.specs.declared.Syllabic as code
use Rattle.lyric_words.specs.declared.Syllabic.TheVariants as S
use Rattle.lyric_words.specs.declared.Token.{Token}
use Rattle.lyric_words.specs.declared.Token.TheVariants as T
use Rattle.lyric_words.specs.declared.Cursor.{Cursor}
use Rattle.lyric_words.specs.declared.Read.{Read}

-- where a syllable stands in its word
abbrev pub as_syllabic : code.Syllabic → Syllabic
as_syllabic S.Single = single
as_syllabic S.Begins = begins
as_syllabic S.Ends = ends
as_syllabic S.Middle = middle

-- a cursor between two words
abbrev pub cursor_between : ℕ → Cursor
cursor_between at = record { at = at; word = at; led = false; trailed = false }

-- the word that a token says
unfoldable pub said : List ℕ → Token → List Word
said text T.Bar = bar ∷ []
said text T.Skip = skip ∷ []
said text T.Hold = hold ∷ []
said text (T.Syllable y) = syllable (as_syllabic y.syllabic) (syllable_text (between text y.at y.end)) ∷ []

-- a syllable's place is within b bytes
abbrev pub Small : ℕ → Token → Type 0
Small b T.Bar = Unit {0}
Small b T.Skip = Unit {0}
Small b T.Hold = Unit {0}
Small b (T.Syllable y) = (y.at ≤ b) × (y.end ≤ b)

-- the syllables still to come of the word at the cursor
unfoldable pub in_word : List ℕ → Cursor → List Word
in_word text c = syllables c.led c.trailed (words (separator is_hyphen) (between text c.at c.word))

-- a word that is no `|`, `*` or `_`
unfoldable pub plain_of : List ℕ → List Word
plain_of w = or_skip (syllables (is_hyphen (first w)) (is_hyphen (last w)) (words (separator is_hyphen) w))

-- the words still to come of the line that ends at `end`
unfoldable pub ahead : List ℕ → ℕ → Cursor → List Word
ahead text end c = in_word text c ++ lyric_words (between text c.word end)

-- A PLAIN WORD
-- `|`, `*` and `_` are words of their own
abbrev pub is_sign : ℕ → Bool
is_sign c = is "|" c || (is "*" c || is "_" c)

-- at `at` a space stands, or the line is over
abbrev pub closed_at : List ℕ → ℕ → ℕ → Bool
closed_at text at end = cond (leb end at) true (is_space (get_or text at 0))

-- plain bytes from at up to plain, one at least: a word, and none of those signs
abbrev pub one_syllable : List ℕ → ℕ → ℕ → ℕ → Bool
one_syllable text at plain end = not (eqb plain at) && (closed_at text plain end && not (eqb (plain - at) 1 && is_sign (get_or text at 0)))

-- a cursor that stands at a syllable or at a word's end
pub record InWord (text : List ℕ) (c : Cursor) : Type 0 where
  pub low : c.at ≤ c.word
  pub piece : c.at < c.word → is_hyphen (get_or text c.at 0) ≡ false

-- a reading went on in a word from `from`: two bytes at least, or to the end of the word
pub record GoneOn (text : List ℕ) (from word : ℕ) (c : Cursor) : Type 0 where
  pub stands : InWord text c
  pub same : c.word ≡ word
  pub on : from < c.at
  pub far : c.at < word → from + 2 ≤ c.at

-- a syllable was read from a cursor that stands at one
pub record SyllableRead (text : List ℕ) (c : Cursor) (r : Read) : Type 0 where
  pub says : in_word text c ≡ said text r.token ++ in_word text r.cursor
  pub small : Small (length text) r.token
  pub gone : GoneOn text c.at c.word r.cursor

-- the first token of a word was read that is no `|`, `*` or `_`
pub record PlainRead (text : List ℕ) (from word : ℕ) (r : Read) : Type 0 where
  pub says : plain_of (between text from word) ≡ said text r.token ++ in_word text r.cursor
  pub small : Small (length text) r.token
  pub gone : GoneOn text from word r.cursor

-- the first token of a word was read
pub record WordRead (text : List ℕ) (from word : ℕ) (r : Read) : Type 0 where
  pub says : word_of (between text from word) ≡ said text r.token ++ in_word text r.cursor
  pub small : Small (length text) r.token
  pub gone : GoneOn text from word r.cursor

-- a cursor of the line that ends at `end` that stands at a syllable, at the beginning of a word, or at the end
pub record Ready (text : List ℕ) (end : ℕ) (c : Cursor) : Type 0 where
  pub stands : InWord text c
  pub within : c.word ≤ end
  pub starts : c.at ≡ c.word → c.word < end → white_at (between text c.word end) ≡ 0
  pub closes : c.at < c.word → c.word < end → 0 < white_at (between text c.word end)

-- white space behind a word is passed over
pub record Settled (text : List ℕ) (end : ℕ) (c r : Cursor) : Type 0 where
  pub ready : Ready text end r
  pub same : ahead text end c ≡ ahead text end r
  pub low : c.at ≤ r.at
  pub past : c.at ≡ c.word → min (c.at + 1) end ≤ r.at

-- a token was read: two bytes at least, or the rest of the line
pub record TokenRead (text : List ℕ) (end : ℕ) (c : Cursor) (r : Read) : Type 0 where
  pub says : ahead text end c ≡ said text r.token ++ ahead text end r.cursor
  pub small : Small (length text) r.token
  pub ready : Ready text end r.cursor
  pub on : c.at < r.cursor.at
  pub far : min (c.at + 2) end ≤ r.cursor.at

-- the cursor at the beginning of a line
pub record First (text : List ℕ) (from end : ℕ) (c : Cursor) : Type 0 where
  pub ready : Ready text end c
  pub line : lyric_words (between text from end) ≡ ahead text end c
  pub low : from ≤ c.at
