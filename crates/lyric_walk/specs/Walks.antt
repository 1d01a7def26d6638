-- A note's syllables by their verses.
use Rattle.std.specs.Prelude.{ℕ, ◌+◌, ◌-◌, ◌*◌, ◌≤◌, ◌<◌, ◌≡◌, Bool, true, false, cond, ◌&&◌, List, [], ◌∷◌, eqb, leb, ltb, length, get_or, Option, is_some, unwrap_or}
use Rattle.laws.specs.Lists.{All, filter}
use Rattle.laws.specs.Bytes.{between}
use Rattle.standard.specs.Bytes.{is}
use Rattle.standard.specs.Lyrics.{syllable_text}
use Rattle.scan_table.specs.Rows.{Cut}
use Rattle.reader.specs.Lyrics.{Syllable}
use Rattle.lyric_words.specs.declared.Syllabic.{Syllabic}
use Rattle.lyric_words.specs.Words.{as_syllabic}
use Rattle.lyrics.specs.declared.Sheet.{Sheet}
use Rattle.lyrics.specs.Sheet.{lyric_head_width, lyric_row_width, RowRead, row_of, row_at, apply_row, sung_from, syllables_in}
use Rattle.lyric_walk.specs.declared.Found.{Found}
use Rattle.lyric_walk.specs.declared.Span.{Span}
use Rattle.lyric_walk.specs.declared.Sole.{Sole}
use Rattle.lyric_walk.specs.declared.Sole.TheVariants as S
use Rattle.lyric_walk.specs.declared.Link.{Link}

-- the tables are within scratch
pub record Tables (s : List ℕ) (h : Sheet) : Type 0 where
  pub heads : h.heads + lyric_head_width * h.sounded ≤ length s
  pub log : h.log + lyric_row_width * h.count ≤ length s

-- what the chain from row k on says
abbrev pub chain : List ℕ → List ℕ → ℕ → ℕ → List Syllable
chain text s log k = sung_from text s log k k

-- k is where the chain of a note begins
pub record HeadIs (s : List ℕ) (h : Sheet) (note k : ℕ) : Type 0 where
  pub low : k ≤ h.count
  pub sung : (text : List ℕ) → get_or (syllables_in text s h) note [] ≡ chain text s h.log k

abbrev pub row_of_link : Link → RowRead
row_of_link r = record { verse = r.verse; syllabic = r.syllabic; at = r.at; end = r.end }

-- r is row k, and the chain goes on below it
pub record LinkIs (s : List ℕ) (log k : ℕ) (r : Link) : Type 0 where
  pub low : r.next < k
  pub row : row_of_link r ≡ row_of (row_at s log (k - 1))
  pub sung : (text : List ℕ) → chain text s log k ≡ apply_row text (row_of_link r) (chain text s log r.next)

-- the syllable that was found: `~` is a space
unfoldable pub syllable_is : List ℕ → Found → Syllable
syllable_is text f = record { verse = f.verse; syllabic = as_syllabic f.syllabic; extend = f.extend; text = syllable_text (between text f.at f.end) }

-- BY VERSE
-- the syllables of one verse; those of the verses from a on, below b
abbrev pub of_verse : ℕ → List Syllable → List Syllable
of_verse v ys = filter (λ (y : Syllable). eqb y.verse v) ys

abbrev pub within : ℕ → ℕ → List Syllable → List Syllable
within a b ys = filter (λ (y : Syllable). leb a y.verse && ltb y.verse b) ys

-- row p of the log, from 1, as a syllable, which no hold is; held, or not
abbrev pub found_of : RowRead → Bool → Found
found_of r x = record { verse = r.verse; syllabic = unwrap_or r.syllabic Syllabic.Middle; extend = x; at = r.at; end = r.end }

abbrev pub found_at : List ℕ → ℕ → ℕ → Bool → Found
found_at s log p x = found_of (row_of (row_at s log (p - 1))) x

-- what it sings; nothing for 0
abbrev pub sung_at : List ℕ → List ℕ → ℕ → ℕ → Bool → List Syllable
sung_at text s log p x = cond (eqb p 0) [] (syllable_is text (found_at s log p x) ∷ [])

-- ONE WALK
-- the first row that sings a verse, and whether a hold of the verse stands before it, after a row of that verse
abbrev pub first_place : ℕ → Option Syllabic → ℕ → ℕ
first_place p o place = cond (eqb p 0) (cond (is_some o) place 0) p

abbrev pub held_since : ℕ → Bool → Option Syllabic → Bool
held_since p x o = cond (eqb p 0) (cond (is_some o) x true) x

-- how many verses a window has
abbrev pub window : ℕ
window = 33

-- a place and a hold for each
pub record Wide (places : List ℕ) (held : List Bool) : Type 0 where
  pub places_long : length places ≡ window
  pub held_long : length held ≡ window

-- nothing is found yet
pub record Clear (places : List ℕ) (held : List Bool) : Type 0 where
  pub wide : Wide places held
  pub none : (i : ℕ) → i < window → get_or places i 0 ≡ 0
  pub loose : (i : ℕ) → i < window → get_or held i false ≡ false

-- the row at `place`, of a verse, is taken into the window from `from` on: q and y were p and x; other verses are as they were
pub record TakesRow (from verse : ℕ) (o : Option Syllabic) (place : ℕ) (p : List ℕ) (x : List Bool) (q : List ℕ) (y : List Bool) : Type 0 where
  pub wide : Wide q y
  pub here : (i : ℕ) → i < window → from + i ≡ verse → (get_or q i 0 ≡ first_place (get_or p i 0) o place) × (get_or y i false ≡ held_since (get_or p i 0) (get_or x i false) o)
  pub other : (i : ℕ) → i < window → (from + i ≡ verse → ⊥) → (get_or q i 0 ≡ get_or p i 0) × (get_or y i false ≡ get_or x i false)

-- the verse of a syllable is one from least to most
abbrev pub InSpan : ℕ → ℕ → Syllable → Type 0
InSpan least most y = (least ≤ y.verse) × (y.verse ≤ most)

-- what the chain from row k on sings of each verse of the window from `from` on; and its least and greatest verse
pub record Gathered (s : List ℕ) (log k from : ℕ) (places : List ℕ) (held : List Bool) (r : Span) : Type 0 where
  pub low : (i : ℕ) → i < window → get_or places i 0 ≤ k
  pub each : (i : ℕ) → i < window → (text : List ℕ) → of_verse (from + i) (chain text s log k) ≡ sung_at text s log (get_or places i 0) (get_or held i false)
  pub span : (text : List ℕ) → All (InSpan r.least r.most) (chain text s log k)
  pub small : r.most < 256

-- A SYLLABLE IN THE TEXT
abbrev pub with_place : Found → ℕ → ℕ → Found
with_place f at end = record { verse = f.verse; syllabic = f.syllabic; extend = f.extend; at = at; end = end }

-- r is f, its place cut to a text of n bytes
pub record InText (n : ℕ) (f r : Found) : Type 0 where
  pub cut : Cut n f.at f.end (record { at = r.at; end = r.end })
  pub same : r ≡ with_place f r.at r.end

-- the chain from row k on goes on behind its first row
pub record GoesOn (s : List ℕ) (log k : ℕ) : Type 0 where
  pub row : Link
  pub first : LinkIs s log k row
  pub more : row.next ≡ 0 → ⊥

-- all that the chain from row k on says, where it has no more than one row; the syllable stands in the text
abbrev pub Says : List ℕ → List ℕ → ℕ → ℕ → Sole → Type 0
Says text s log k S.Nothing = chain text s log k ≡ []
Says text s log k (S.One f) = (chain text s log k ≡ syllable_is text f ∷ []) × (f.at ≤ f.end) × (f.end ≤ length text)
Says text s log k S.Several = GoesOn s log k

pub record SoleIs (text s : List ℕ) (log k : ℕ) (r : Sole) : Type 0 where
  pub says : Says text s log k r

-- a byte of a syllable's text
abbrev pub sung_byte : ℕ → ℕ
sung_byte c = cond (is "~" c) 32 c
