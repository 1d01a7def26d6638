-- COUNTING what music can make, and the tables for it.
use Rattle.std.specs.Prelude.{ℕ, ◌+◌, ◌*◌, ◌^◌, ◌<◌, List}
use Rattle.reader.specs.Records.{measure_width}
use Rattle.capacity.specs.Sizes.{bars, letters, rests, signs}
use Rattle.scan_table.specs.Rows.{table_end}
use Rattle.part_rows.specs.Encoded.{note_row_width, pitch_row_width, scope_row_width, scope_index_width}
use Rattle.part_registers.specs.declared.Tables.{Tables}
use Rattle.part_sizing.specs.declared.Made.{Made}

-- what bytes can make
abbrev pub made_of : List ℕ → Made ℕ
made_of l = record { bars = bars l; letters = letters l; rests = rests l; signs = signs l }

-- what these can make and more bytes
abbrev pub more : Made ℕ → List ℕ → Made ℕ
more m l = record { bars = m.bars + bars l; letters = m.letters + letters l; rests = m.rests + rests l; signs = m.signs + signs l }

-- two counts in one
abbrev pub both : Made ℕ → Made ℕ → Made ℕ
both m k = record { bars = m.bars + k.bars; letters = m.letters + k.letters; rests = m.rests + k.rests; signs = m.signs + k.signs }

-- each is below k
pub record Under (k : ℕ) (b : Made ℕ) : Type 0 where
  pub bars : b.bars < k
  pub letters : b.letters < k
  pub rests : b.rests < k
  pub signs : b.signs < k

-- they can be added
pub record Adds (m b : Made ℕ) : Type 0 where
  pub bars : m.bars + b.bars < 2 ^ 64
  pub letters : m.letters + b.letters < 2 ^ 64
  pub rests : m.rests + b.rests < 2 ^ 64
  pub signs : m.signs + b.signs < 2 ^ 64

-- k more can be counted
pub record Few (m : Made ℕ) (k : ℕ) : Type 0 where
  pub bars : m.bars + k < 2 ^ 64
  pub letters : m.letters + k < 2 ^ 64
  pub rests : m.rests + k < 2 ^ 64
  pub signs : m.signs + k < 2 ^ 64

-- THE TABLES behind n items: a first measure and one for each barline, a note for each letter and rest, a pitch for each letter, the index of accidentals and a row for each sign
abbrev pub heads_at : ℕ → ℕ
heads_at n = table_end n

abbrev pub notes_at : ℕ → Made ℕ → ℕ
notes_at n m = heads_at n + measure_width * (m.bars + 1)

abbrev pub pitches_at : ℕ → Made ℕ → ℕ
pitches_at n m = notes_at n m + note_row_width * (m.letters + m.rests)

abbrev pub scopes_at : ℕ → Made ℕ → ℕ
scopes_at n m = pitches_at n m + pitch_row_width * m.letters

abbrev pub tables_at : ℕ → Made ℕ → Tables
tables_at n m = record { heads = heads_at n; notes = notes_at n m; pitches = pitches_at n m; scopes = scopes_at n m; end = scopes_at n m + scope_index_width + scope_row_width * m.signs }
