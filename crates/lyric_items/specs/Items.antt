-- THE LYRIC LINES OF A PART, among the items of the line table, sung in either edition.
use Rattle.std.specs.Prelude.{ℕ, ◌+◌, ◌*◌, ◌≤◌, ◌<◌, ◌^◌, ◌≡◌, List, length}
use Rattle.editions.specs.declared.Edition.{Edition}
use Rattle.reader.specs.Lyrics.{Syllable, sung_in}
use Rattle.scan_table.specs.declared.Row as items
use Rattle.scan_table.specs.Rows.{item_row_width, row_from, item_at}
use Rattle.lyrics.specs.declared.Sheet.{Sheet}
use Rattle.lyrics.specs.declared.Line.{Line}
use Rattle.lyrics.specs.Sheet.{lyric_row_width, with_count, Kept, Outside, syllables_in}
use Rattle.lyrics.specs.Items.{line_of, lines_in, rows_of}
use Rattle.lyric_lines.specs.Stands.{stops_of}
use Rattle.lyric_lines.specs.Lines.{Known}

-- a line's fields are those of its item
pub record LineFrom (r : items.Row) (l : Line) : Type 0 where
  pub start : l.start ≡ r.unit
  pub verse : l.verse ≡ r.b
  pub low : l.at ≡ r.at
  pub high : l.end ≡ r.end
  pub near : l.start < 2 ^ 32

-- item i stands before the tables, and there is room for its rows
pub record ItemFits (text s : List ℕ) (p i : ℕ) (h : Sheet) : Type 0 where
  pub kept : Kept s h
  pub before_heads : row_from i + item_row_width ≤ h.heads
  pub short : length text < 2 ^ 32
  pub inside : h.log + lyric_row_width * (h.count + rows_of (line_of text p (item_at s i))) ≤ length s
  pub few : h.count + rows_of (line_of text p (item_at s i)) < 2 ^ 32

-- item i was sung, if it is a line of the part; n rows are now written
pub record ItemSung (ed : Edition) (text s t : List ℕ) (p i : ℕ) (h : Sheet) (n : ℕ) : Type 0 where
  pub kept : Kept t (with_count h n)
  pub known : (ms : List (List ℕ)) → Known ed s (stops_of h) ms → Known ed t (stops_of h) ms
  pub sung : (ms : List (List ℕ)) → Known ed s (stops_of h) ms → syllables_in text t (with_count h n) ≡ sung_in ed ms (line_of text p (item_at s i)) (syllables_in text s h)
  pub more : h.count ≤ n
  pub room : n ≤ h.count + rows_of (line_of text p (item_at s i))
  pub outside : Outside s t h.heads (h.log + lyric_row_width * n)

-- all lyric lines of the part were sung, to notes that had the syllables `notes`; c rows are written
pub record AllSung (ed : Edition) (text s t : List ℕ) (n p : ℕ) (h : Sheet) (notes : List (List Syllable)) (c : ℕ) : Type 0 where
  pub kept : Kept t (with_count h c)
  pub sung : (ms : List (List ℕ)) → Known ed s (stops_of h) ms → syllables_in text t (with_count h c) ≡ sung_in ed ms (lines_in text s p n) notes
  pub room : c ≤ rows_of (lines_in text s p n)
  pub outside : Outside s t h.heads (h.log + lyric_row_width * c)
