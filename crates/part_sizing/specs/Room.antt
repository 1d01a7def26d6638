-- THE ROOM FOR A PART: what is asked of scratch before it is read, and the tables that have room in it then.
use Rattle.std.specs.Prelude.{ℕ, ◌+◌, ◌*◌, ◌^◌, ◌≤◌, ◌<◌, ◌≡◌, List, length}
use Rattle.laws.specs.Lists.{sum}
use Rattle.reader.specs.Steps.{items_of}
use Rattle.reader.specs.Records.{measure_width}
use Rattle.bounds.specs.Weights.{scope_index_width, lyric_bytes, item_bytes}
use Rattle.capacity.specs.Sizes.{tones}
use Rattle.capacity.specs.Music.{music_of}
use Rattle.scan_table.specs.Rows.{items_in, table_end}
use Rattle.part_registers.specs.declared.Tables.{Tables}
use Rattle.part_registers.specs.declared.Counts.{Counts}
use Rattle.part_invariant.specs.Lines.{RoomForBytes}
use Rattle.lyrics.specs.Sheet.{lyric_head_width, lyric_stop_width, lyric_row_width}
use Rattle.part_sizing.specs.Counting.{made_of, tables_at}

-- behind the line table there are the index of accidentals, and a measure's bytes for a first measure and for each byte of the part's lines
pub record PartRoom (text s : List ℕ) (n part : ℕ) : Type 0 where
  pub fits : table_end n + scope_index_width + measure_width + measure_width * sum item_bytes (items_of part (items_in text s n)) ≤ length s
  pub small : table_end n + scope_index_width + measure_width + measure_width * sum item_bytes (items_of part (items_in text s n)) < 2 ^ 32
  pub short : length text ≤ 67108864

-- the part's music
abbrev pub music_at : List ℕ → List ℕ → ℕ → ℕ → List ℕ
music_at text s n part = music_of (items_of part (items_in text s n))

abbrev pub no_rows : Counts
no_rows = record { heads = 0; notes = 0; pitches = 0; scopes = 0 }

-- THE TABLES have room for all that the part's music can make; and where the last one begins there is room for the lyrics: a head and a stop for each note and a
-- row for each byte of the lyric lines (proofs/Fits.sheet-fits)
pub record Sized (text s : List ℕ) (n part : ℕ) (t : Tables) : Type 0 where
  pub is : t ≡ tables_at n (made_of (music_at text s n part))
  pub behind_items : t.heads ≡ table_end n
  pub rest : RoomForBytes t no_rows (length s) (music_at text s n part)
  pub sheet : t.scopes + lyric_head_width * tones (music_at text s n part) + lyric_stop_width * tones (music_at text s n part) + lyric_row_width * sum lyric_bytes (items_of part (items_in text s n)) ≤ length s
  pub few : sum lyric_bytes (items_of part (items_in text s n)) < 2 ^ 32
