-- ITEMS TAKEN: what each leaves of scratch and registers, and what all of a part's items make.
use Rattle.std.specs.Prelude.{None}
use Rattle.std.specs.Prelude.{ℕ, ◌+◌, ◌≤◌, ◌≡◌, Bool, false, cond, List, [], ◌∷◌, ◌++◌, reverse, length}
use Rattle.laws.specs.Lists.{foldl}
use Rattle.standard.specs.Keys.{Key}
use Rattle.standard.specs.Lyrics.{next_verse}
use Rattle.editions.specs.declared.Edition.{Edition}
use Rattle.reader.specs.Scan.{Item}
use Rattle.reader.specs.Steps.{items_of}
use Rattle.part_layout.specs.Log.{LogState, new_log}
use Rattle.part_layout.specs.Ends.{on_item}
use Rattle.part_layout.specs.Lines.{Between}
use Rattle.capacity.specs.Music.{music_of}
use Rattle.scan_table.specs.Rows.{row_from, item_at, items_from, item_row_width, item_in, items_in}
use Rattle.lyrics.specs.Items.{line_of, lines_in}
use Rattle.part_rows.specs.Table.{Only}
use Rattle.part_registers.specs.declared.Tables.{Tables}
use Rattle.part_registers.specs.declared.Registers.{Registers}
use Rattle.part_registers.specs.declared.Running.TheVariants.{Nothing}
use Rattle.part_bars.specs.Bars.{nowhere}
use Rattle.part_invariant.specs.Invariant.{Represents}
use Rattle.part_invariant.specs.Lines.{RoomForBytes, RepresentedBetween, GrowsBy}

-- THE REGISTERS before the first item
abbrev pub begun : Registers
begun =
    record {
      counts = record { heads = 0; notes = 0; pitches = 0; scopes = 0 };
      key = record { fifths = 128; minor = false; scopes = nowhere };
      last = nowhere;
      pending = record { tie = false; slur = false; grace = false };
      line = record { unit = 8; top = 4; bottom = 4; overlay = 0; run = 0 };
      half = None;
      tuplet = Nothing;
      verses = record { sounded = 0; start = 0; verse = 1 };
    }

-- with another key
abbrev pub keyed_as : Registers → Key → Registers
keyed_as r k =
    record {
      counts = r.counts;
      key = record { fifths = k.fifths; minor = k.minor; scopes = r.key.scopes };
      last = r.last;
      pending = r.pending;
      line = r.line;
      half = r.half;
      tuplet = r.tuplet;
      verses = r.verses;
    }

-- with another verse to come
abbrev pub with_verse : Registers → ℕ → Registers
with_verse r v =
    record {
      counts = r.counts;
      key = r.key;
      last = r.last;
      pending = r.pending;
      line = r.line;
      half = r.half;
      tuplet = r.tuplet;
      verses = record { sounded = r.verses.sounded; start = r.verses.start; verse = v };
    }

-- after a lyric line
abbrev pub versed : Registers → Bool → Registers
versed r placed = with_verse r (cond placed (next_verse r.verses.verse) r.verses.verse)

-- item i, if it is the part's
abbrev pub own_at : List ℕ → ℕ → List ℕ → ℕ → List Item
own_at text p s i = items_of p (item_in text (item_at s i) ∷ [])

-- ITEM i CAN BE TAKEN: a part is represented, there is room, and the row stands before the tables
pub record Ready (text : List ℕ) (t : Tables) (p i : ℕ) (s : List ℕ) (r : Registers) : Type 0 where
  pub room : RoomForBytes t r.counts (length s) (music_of (own_at text p s i))
  pub waits : RepresentedBetween t s r
  pub before : row_from i + item_row_width ≤ t.heads

-- IT WAS TAKEN: at most its own row changed, which is the same item still, and then the tables
pub record Taken (ed : Edition) (text : List ℕ) (t : Tables) (header : Key) (p i : ℕ) (s : List ℕ) (r : Registers) (s' : List ℕ) (r' : Registers) : Type 0 where
  pub middle : List ℕ
  pub own_row : Only (row_from i) (row_from i + item_row_width) s middle
  pub tables : Only t.heads t.end middle s'
  pub same_item : item_in text (item_at middle i) ≡ item_in text (item_at s i)
  pub grows : GrowsBy r.counts r'.counts (music_of (own_at text p s i))
  pub holds : (l : LogState) → Between l → Represents t s r [] l → Represents t s' r' [] (foldl (on_item ed header) l (own_at text p s i))
  pub lines : (l : LogState) → Represents t s r [] l → reverse (foldl (on_item ed header) l (own_at text p s i)).verses.lines ≡ reverse l.verses.lines ++ line_of text p (item_at middle i)

-- a part after those of the first n items that are its own
abbrev pub after : Edition → Key → List ℕ → List ℕ → ℕ → ℕ → LogState
after ed header text s p n = foldl (on_item ed header) new_log (items_of p (items_in text s n))

-- ALL ITEMS were taken: the part is represented, the line table is the same, and its lyric lines have their verses and first notes
pub record Built (ed : Edition) (text : List ℕ) (t : Tables) (header : Key) (p n : ℕ) (s s' : List ℕ) (r : Registers) : Type 0 where
  pub represents : Represents t s' r [] (after ed header text s p n)
  pub room : RoomForBytes t r.counts (length s') []
  pub same_items : items_in text s' n ≡ items_in text s n
  pub lines : lines_in text s' p n ≡ reverse (after ed header text s p n).verses.lines
  pub only : Only items_from t.end s s'
