-- THE LYRIC LINES OF A PART, among the items of the line table.
use Rattle.std.specs.Prelude.{ℕ, ◌+◌, ◌*◌, ◌≤◌, ◌<◌, ◌^◌, Bool, true, false, ◌&&◌, List, [], ◌∷◌, map, eqb, length}
use Rattle.laws.specs.Lists.{filter, sum}
use Rattle.laws.specs.Bytes.{between, rows}
use Rattle.reader.specs.State as reader
use Rattle.scan_table.specs.declared.Kind.{Kind}
use Rattle.scan_table.specs.declared.Kind.TheVariants as K
use Rattle.scan_table.specs.declared.Row as items
use Rattle.scan_table.specs.Rows.{items_from, item_row_width, table_end, dec_item}
use Rattle.lyrics.specs.declared.Sheet.{Sheet}
use Rattle.lyrics.specs.Sheet.{lyric_stop_width, lyric_row_width, stops_from}
use Rattle.lyrics.specs.Lines.{rows_for}

abbrev pub is_lyric : Kind → Bool
is_lyric K.VoiceDeclared = false
is_lyric K.Reset = false
is_lyric K.KeyInHeader = false
is_lyric K.KeyChange = false
is_lyric K.MeterChange = false
is_lyric K.LyricLine = true
is_lyric K.MusicLine = false

-- an item that is a lyric line of the part
unfoldable pub is_line : ℕ → items.Row → Bool
is_line p r = is_lyric r.kind && eqb r.part p

-- its line: the first note stands where a music line has its unit, the verse in b
unfoldable pub line_in : List ℕ → items.Row → reader.Sung
line_in text r = record { start = r.unit; verse = r.b; text = between text r.at r.end }

-- the line of an item, if it is one
unfoldable pub line_of : List ℕ → ℕ → items.Row → List reader.Sung
line_of text p r = map (line_in text) (filter (is_line p) (r ∷ []))

-- those among the first n items
unfoldable pub lines_in : List ℕ → List ℕ → ℕ → ℕ → List reader.Sung
lines_in text s p n = map (line_in text) (filter (is_line p) (rows dec_item item_row_width s items_from n))

-- how many rows lines can need
unfoldable pub rows_of : List reader.Sung → ℕ
rows_of ls = sum (λ (l : reader.Sung). rows_for (length l.text)) ls

-- the n items stand before the tables, these apart, and there is room
pub record Fits (text s : List ℕ) (n p : ℕ) (h : Sheet) : Type 0 where
  pub before_heads : table_end n ≤ h.heads
  pub apart : stops_from h + lyric_stop_width * h.sounded ≤ h.log
  pub short : length text < 2 ^ 32
  pub inside : h.log + lyric_row_width * rows_of (lines_in text s p n) ≤ length s
  pub few : rows_of (lines_in text s p n) < 2 ^ 32
