-- LYRIC LINES as the code has them.
use Rattle.std.specs.Prelude.{ℕ, ◌+◌, ◌-◌, ◌*◌, ◌/◌, ◌≤◌, ◌<◌, ◌^◌, List, length}
use Rattle.lyrics.specs.declared.Sheet.{Sheet}
use Rattle.lyrics.specs.declared.Line.{Line}
use Rattle.lyrics.specs.Sheet.{lyric_row_width, Kept}

-- how many rows n bytes of lyric text can need: each syllable takes two bytes, but the last
abbrev pub rows_for : ℕ → ℕ
rows_for n = (n + 1) / 2

-- a line is in the text, and there is room for its rows
pub record LineFits (text s : List ℕ) (h : Sheet) (l : Line) : Type 0 where
  pub kept : Kept s h
  pub order : l.at ≤ l.end
  pub high : l.end ≤ length text
  pub short : length text < 2 ^ 32
  pub near : l.start < 2 ^ 32
  pub inside : h.log + lyric_row_width * (h.count + rows_for (l.end - l.at)) ≤ length s
  pub few : h.count + rows_for (l.end - l.at) < 2 ^ 32
