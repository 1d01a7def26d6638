-- The voices and the line table as functions of scratch's bytes and the text's.
use Rattle.std.specs.Prelude.{ℕ, ◌+◌, ◌*◌, ◌≤◌, ◌<◌, ◌≡◌, cond, List, [], ◌∷◌, ◌++◌, map, eqb, length, get_or, Option, Some, None}
use Rattle.laws.specs.Lists.{index_of}
use Rattle.laws.specs.Bytes.{part, between, splice, le32, u32_at, rows}
use Rattle.reader.specs.Scan.{Item, voice_declared, reset, key_in_header, key_change, meter_change, lyric_line, music_line, Items}
use Rattle.bounds.specs.Weights as bounds
use Rattle.scan_table.specs.declared.Kind.{Kind}
use Rattle.scan_table.specs.declared.Kind.TheVariants as K
use Rattle.scan_table.specs.declared.Place.{Place}
use Rattle.scan_table.specs.declared.Row.{Row}

-- THE LAYOUT of scratch: the rows of 32 voices, then the items; every row's bytes. What the line table takes of scratch is said here alone
abbrev pub voice_row_width : ℕ
voice_row_width = 8

abbrev pub items_from : ℕ
items_from = 256

abbrev pub item_row_width : ℕ
item_row_width = bounds.item_row_width

-- where item i stands, and where the line table of n items ends
abbrev pub row_from : ℕ → ℕ
row_from i = items_from + item_row_width * i

abbrev pub table_end : ℕ → ℕ
table_end n = items_from + item_row_width * n

-- WHERE THE FIELDS OF A VOICE'S ROW STAND
abbrev pub voice_start_at : ℕ
voice_start_at = 0

abbrev pub voice_end_at : ℕ
voice_end_at = 4

-- and those of an item's
abbrev pub kind_at : ℕ
kind_at = 0

abbrev pub part_at : ℕ
part_at = 1

abbrev pub a_at : ℕ
a_at = 2

abbrev pub b_at : ℕ
b_at = 3

abbrev pub start_at : ℕ
start_at = 4

abbrev pub end_at : ℕ
end_at = 8

abbrev pub unit_at : ℕ
unit_at = 12

-- THE KINDS OF ITEMS and their bytes; a byte past the last is read as a music line's
abbrev pub byte_of : Kind → ℕ
byte_of K.VoiceDeclared = 0
byte_of K.Reset = 1
byte_of K.KeyInHeader = 2
byte_of K.KeyChange = 3
byte_of K.MeterChange = 4
byte_of K.LyricLine = 5
byte_of K.MusicLine = 6

abbrev pub kind_of : ℕ → Kind
kind_of b =
    cond (eqb b 0) K.VoiceDeclared
    (cond (eqb b 1) K.Reset
    (cond (eqb b 2) K.KeyInHeader
    (cond (eqb b 3) K.KeyChange
    (cond (eqb b 4) K.MeterChange
    (cond (eqb b 5) K.LyricLine K.MusicLine)))))

-- an item of a part that has no more than its kind
abbrev pub plain_row : Kind → ℕ → Row
plain_row k p = record { kind = k; part = p; a = 0; b = 0; at = 0; end = 0; unit = 0 }

-- VOICES
unfoldable pub dec_voice : List ℕ → Place
dec_voice bs = record { at = u32_at bs voice_start_at; end = u32_at bs voice_end_at }

-- a voice's identifier, which stands in the text
abbrev pub voice_in : List ℕ → Place → List ℕ
voice_in text p = between text p.at p.end

-- the identifiers of the first n voices
unfoldable pub voices_in : List ℕ → List ℕ → ℕ → List (List ℕ)
voices_in text s n = map (voice_in text) (rows dec_voice voice_row_width s 0 n)

-- ITEMS
unfoldable pub dec_item : List ℕ → Row
dec_item bs =
    record { kind = kind_of (get_or bs kind_at 0); part = get_or bs part_at 0; a = get_or bs a_at 0; b = get_or bs b_at 0; at = u32_at bs start_at; end = u32_at bs end_at; unit = u32_at bs unit_at }

unfoldable pub enc_item : Row → List ℕ
enc_item r = (byte_of r.kind ∷ r.part ∷ r.a ∷ r.b ∷ []) ++ le32 r.at ++ le32 r.end ++ le32 r.unit

-- item i
abbrev pub item_at : List ℕ → ℕ → Row
item_at s i = dec_item (part s (row_from i) item_row_width)

-- an item by its kind
unfoldable pub item_as : Kind → List ℕ → Row → Item
item_as K.VoiceDeclared text r = voice_declared (eqb r.a 1)
item_as K.Reset text r = reset
item_as K.KeyInHeader text r = key_in_header
item_as K.KeyChange text r = key_change (record { fifths = r.a; minor = eqb r.b 1 })
item_as K.MeterChange text r = meter_change (r.a, r.b)
item_as K.LyricLine text r = lyric_line (eqb r.a 1) (between text r.at r.end)
item_as K.MusicLine text r = music_line r.unit (r.a, r.b) (between text r.at r.end)

-- a row as the definition's item, with the number of its part
unfoldable pub item_in : List ℕ → Row → ℕ × Item
item_in text r = (r.part, item_as r.kind text r)

-- the first n items
unfoldable pub items_in : List ℕ → List ℕ → ℕ → Items
items_in text s n = map (item_in text) (rows dec_item item_row_width s items_from n)

-- a lyric line's row with its verse and its first note
abbrev pub lyric_row : Row → ℕ → ℕ → Row
lyric_row r verse first = record { kind = r.kind; part = r.part; a = r.a; b = verse; at = r.at; end = r.end; unit = first }

-- scratch with these in item i
abbrev pub with_lyric : List ℕ → ℕ → ℕ → ℕ → List ℕ
with_lyric s i verse first = splice (splice s (row_from i + b_at) (verse ∷ [])) (row_from i + unit_at) (le32 first)

-- WHAT IS READ
-- r is the place from at up to end, as far as it lies in a text of n bytes
pub record Cut (n at end : ℕ) (r : Place) : Type 0 where
  pub order : r.at ≤ r.end
  pub high : r.end ≤ n
  pub same : (t : List ℕ) → length t ≡ n → between t r.at r.end ≡ between t at end

-- the first voice with this identifier was found, if there is one
abbrev pub FoundVoice : List ℕ → List (List ℕ) → Option ℕ → Type 0
FoundVoice v vs (Some i) = (i < length vs) × (i ≡ index_of v vs)
FoundVoice v vs None = index_of v vs ≡ length vs

-- r is a row, its place in the text
pub record RowIs (text : List ℕ) (q r : Row) : Type 0 where
  pub order : r.at ≤ r.end
  pub high : r.end ≤ length text
  pub kind : r.kind ≡ q.kind
  pub b : r.b ≡ q.b
  pub unit : r.unit ≡ q.unit
  pub item : item_in text r ≡ item_in text q
