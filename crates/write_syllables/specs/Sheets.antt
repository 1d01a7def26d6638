-- A SHEET in scratch, as its writers find it.
use Rattle.std.specs.Prelude.{ℕ, ◌+◌, ◌<◌, List}
use Rattle.lyrics.specs.declared.Sheet.{Sheet}
use Rattle.lyric_walk.specs.Walks.{Tables}

-- its tables are within the store
pub record SheetIn (s : List ℕ) (h : Sheet) : Type 0 where
  pub tables : Tables s h
  pub few : h.count + 1 < 18446744073709551616
