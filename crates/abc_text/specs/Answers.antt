-- What `parse_abc` answers, and how it leaves both stores, as the definition has it.
use Rattle.std.specs.Prelude.{ℕ, ◌+◌, ◌*◌, ◌^◌, ◌≤◌, ◌<◌, ◌≡◌, List, length}
use Rattle.std.specs.Prelude as rust
use Rattle.std.specs.Prelude.{Result, Ok, Err, ok_or}
use Rattle.std.proofs.Math.Option.{Option, none, some}
use Rattle.refusals.specs.declared.Refusal.{Refusal}
use Rattle.refusals.specs.declared.Refused.{Refused}
use Rattle.refusals.specs.Numbers.{number_of}
use Rattle.laws.specs.Lists.{sum}
use Rattle.reader.specs.Steps.{items_of}
use Rattle.reader.specs.Records.{measure_width}
use Rattle.reader.specs.Answer.{Outcome, early, refused_with, answer_of}
use Rattle.bounds.specs.Weights.{scope_index_width, item_bytes}
use Rattle.scan_table.specs.Rows.{items_in, table_end}
use Rattle.reading_answers.specs.Answers.{answer_as}

-- A CALL THAT CAME TO w: its answer, and both stores after it
pub record Parsed (w : Outcome) (r : Result ℕ Refused) (reading scratch : List ℕ) : Type 0 where
  pub answer : answer_as r ≡ answer_of w.verdict
  pub reading_is : reading ≡ w.reading
  pub scratch_is : scratch ≡ w.scratch

-- where the parts were to be written: their length, or that the reading store is too short
abbrev pub wrote_as : rust.Option ℕ → Result ℕ Refused
wrote_as w = ok_or w (record { refusal = Refusal.ReadingShort; line = 0 })

-- WHAT IS TESTED BEFORE THE FIRST LINE
abbrev pub early_as : Result (Unit {0}) Refusal → ℕ → ℕ → Option Outcome
early_as (Ok u) rl sl = none
early_as (Err e) rl sl = some (refused_with (number_of e) 0 rl sl)

-- of a text and a scratch store of sl bytes, whatever the reading store's length is
pub record EarlyIs (text : List ℕ) (sl : ℕ) (r : Result (Unit {0}) Refusal) : Type 0 where
  pub is : (rl : ℕ) → early text rl sl ≡ early_as r rl sl

-- ROOM for the tables of each part of the n items behind the line table and a part's own
abbrev pub taken_by : List ℕ → List ℕ → ℕ → ℕ → ℕ
taken_by text s n q = table_end n + table_end n + scope_index_width + measure_width + measure_width * sum item_bytes (items_of q (items_in text s n))

pub record Rooms (text s : List ℕ) (n : ℕ) : Type 0 where
  pub fits : (q : ℕ) → taken_by text s n q ≤ length s
  pub small : (q : ℕ) → taken_by text s n q < 2 ^ 32
  pub short : length text ≤ 67108864
