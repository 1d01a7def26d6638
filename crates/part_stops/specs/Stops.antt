-- THE STOPS AS THEY ARE WRITTEN: forward over a part's measures and notes, kinds and distances back; then backward over the stops, distances forward.
use Rattle.std.specs.Prelude.{ℕ, ◌+◌, ◌*◌, ◌^◌, ◌≤◌, ◌<◌, ◌≡◌, List, ◌++◌, length}
use Rattle.reader.specs.State.{Note}
use Rattle.reader.specs.Records.{measure_width}
use Rattle.lyric_stops.specs.declared.Stop.{Stop}
use Rattle.lyric_stops.specs.declared.Stops.{Stops}
use Rattle.lyric_stops.specs.declared.Kind.{Kind}
use Rattle.lyric_stops.specs.Stops.{lyric_stop_width, Inside, stops_in, kind_at, distance_at, kinds_of, back_of, Hints, StopsAre}
use Rattle.part_layout.specs.Log.{Head}
use Rattle.part_layout.specs.Lines.{Fits}
use Rattle.part_layout.specs.Ends.{takers_in}
use Rattle.part_rows.specs.Table.{Table, Only}
use Rattle.part_rows.specs.Encoded.{note_row, note_row_width}
use Rattle.part_measures.specs.Heads.{head_row, total}
use Rattle.part_stops.specs.declared.Marked.{Marked}
use Rattle.part_stops.specs.declared.Ahead.{Ahead}
use Rattle.part_stops.specs.Marks.{marks_of}

-- FORWARD
-- the first c stops
abbrev pub first_stops : List ℕ → Stops → ℕ → List Stop
first_stops s t c = stops_in s (record { at = t.at; count = c })

-- what is written lies in the table
abbrev pub InTable : Stops → List ℕ → List ℕ → Type 0
InTable t s s' = Only t.at (t.at + lyric_stop_width * t.count) s s'

-- no distance back passes over a note that takes a syllable
abbrev pub OverBack : List Stop → Type 0
OverBack xs = (j k : ℕ) → kind_at xs j ≡ Kind.First → j < k + distance_at xs j → k < j → kind_at xs k ≡ Kind.Passed

-- and `last` is the last of the notes that does
pub record Backed (xs : List Stop) (last : ℕ) : Type 0 where
  pub last_is : last ≡ back_of xs (length xs)
  pub over_back : OverBack xs

-- stops of these kinds were written behind those that are marked
pub record Marks (s s' : List ℕ) (t : Stops) (m r : Marked) (ks : List Kind) : Type 0 where
  pub only : InTable t s s'
  pub kinds : kinds_of (first_stops s' t r.count) ≡ kinds_of (first_stops s t m.count) ++ ks
  pub backed : Backed (first_stops s t m.count) m.last → Backed (first_stops s' t r.count) r.last
  pub low : r.last ≤ r.count

-- there is room for them
pub record Room (s : List ℕ) (t : Stops) (m : Marked) (ks : List Kind) : Type 0 where
  pub inside : Inside s t
  pub room : m.count + length ks ≤ t.count
  pub low : m.last ≤ m.count

-- the stops of all measures were
pub record AllMarked (s s' : List ℕ) (t : Stops) (ks : List Kind) : Type 0 where
  pub only : InTable t s s'
  pub kinds : kinds_of (stops_in s' t) ≡ ks
  pub last : ℕ
  pub backed : Backed (stops_in s' t) last

-- BACKWARD
-- from note j on the first that takes a syllable, and the first that is the first of its measure; or behind the last note
pub record AheadOf (xs : List Stop) (j : ℕ) (a : Ahead) : Type 0 where
  pub taker_low : j ≤ a.taker
  pub taker_here : kind_at xs a.taker ≡ Kind.Passed → ⊥
  pub taker_passed : (k : ℕ) → j ≤ k → k < a.taker → kind_at xs k ≡ Kind.Passed
  pub first_low : j ≤ a.first
  pub first_here : kind_at xs a.first ≡ Kind.First
  pub first_passed : (k : ℕ) → j ≤ k → k < a.first → kind_at xs k ≡ Kind.First → ⊥

-- no distance forward of a note from j on passes over what is looked for
pub record HintsFrom (xs : List Stop) (j : ℕ) : Type 0 where
  pub over_passed : (i k : ℕ) → j ≤ i → kind_at xs i ≡ Kind.Passed → i ≤ k → k < i + distance_at xs i → kind_at xs k ≡ Kind.Passed
  pub over_later : (i k : ℕ) → j ≤ i → (kind_at xs i ≡ Kind.First → ⊥) → i ≤ k → k < i + distance_at xs i → kind_at xs k ≡ Kind.First → ⊥

-- stop j was given its distance; a is ahead then
pub record Aimed (s s' : List ℕ) (t : Stops) (j : ℕ) (a : Ahead) : Type 0 where
  pub only : InTable t s s'
  pub kinds : kinds_of (stops_in s' t) ≡ kinds_of (stops_in s t)
  pub back : OverBack (stops_in s t) → OverBack (stops_in s' t)
  pub hints : HintsFrom (stops_in s' t) j
  pub ahead : AheadOf (stops_in s' t) j a

-- all were
pub record AllAimed (s s' : List ℕ) (t : Stops) : Type 0 where
  pub only : InTable t s s'
  pub kinds : kinds_of (stops_in s' t) ≡ kinds_of (stops_in s t)
  pub hints : OverBack (stops_in s t) → Hints (stops_in s' t)

-- THE WHOLE TABLE
-- of n measures from h on, whose notes' rows begin at p: all stand before it, and it has a stop for each note that is sung
pub record Ready (s : List ℕ) (h n p : ℕ) (t : Stops) : Type 0 where
  pub measures_before : h + measure_width * n ≤ t.at
  pub notes_before : p + note_row_width * total s h n ≤ t.at
  pub inside : Inside s t
  pub all_notes_lem : length (marks_of s h p n) ≡ t.count

-- these measures and notes
pub record Holds (s : List ℕ) (h n p : ℕ) (ms : List Head) (log : List (ℕ × Note)) : Type 0 where
  pub measures_table : Table head_row measure_width s h ms
  pub measures_are : length ms ≡ n
  pub notes_table : Table note_row note_row_width s p log
  pub few_notes : length log < 2 ^ 32
  pub fits : Fits ms log

-- the table is that of their measures, and nothing else was written
pub record Stopped (s s' : List ℕ) (h n p : ℕ) (t : Stops) : Type 0 where
  pub only : InTable t s s'
  pub stops : (ms : List Head) (log : List (ℕ × Note)) → Holds s h n p ms log → StopsAre s' t (takers_in 0 ms log)
