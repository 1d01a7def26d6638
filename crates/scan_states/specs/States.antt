-- What the scan knows between two lines, as the definitions have it, and what one line comes to.
use Rattle.std.specs.Prelude.{ℕ, suc, ◌+◌, ◌≤◌, ◌<◌, ◌≡◌, List, Result, Ok, Err}
use Rattle.reader.specs.Steps.{refuse, on, first}
use Rattle.reader.specs.Scan.{ScanState, Out}
use Rattle.refusals.specs.declared.Refusal.{Refusal}
use Rattle.refusals.specs.declared.Refused.{Refused}
use Rattle.refusals.specs.Numbers.{number_of}
use Rattle.field_keys.specs.Passed.{key_as}
use Rattle.scan_table.specs.Rows.{table_end, voices_in, items_in}
use Rattle.scan_states.specs.declared.State.{State}

-- the definition's state, with these voices
abbrev pub state_with : List (List ℕ) → State → ScanState
state_with vs st =
    record {
      env = record { in_header = st.in_header; voices = vs; header_key = key_as st.key };
      unit = st.unit;
      meter = (st.top, st.bottom);
      part = st.part;
      notes = st.notes;
      lines = st.lines;
      places = st.places;
      opened = st.opened;
    }

-- with those in scratch
abbrev pub state_in : List ℕ → List ℕ → State → ScanState
state_in text s st = state_with (voices_in text s st.voices) st

-- how far the scan has come, with every item so far
abbrev pub out_in : List ℕ → List ℕ → Result State Refused → Out
out_in text s (Ok st) = on (state_in text s st) (items_in text s st.items)
out_in text s (Err r) = refuse (number_of r.refusal) r.line

-- a refusal of the line that is being read
abbrev pub refused_in : State → Refusal → Refused
refused_in st r = record { refusal = r; line = suc st.lines }

-- one line more; one item and one line more
abbrev pub next_state : State → State
next_state st = record {
  in_header = st.in_header;
  key = st.key;
  unit = st.unit;
  top = st.top;
  bottom = st.bottom;
  part = st.part;
  notes = st.notes;
  lines = suc st.lines;
  places = st.places;
  opened = st.opened;
  voices = st.voices;
  items = st.items;
}

abbrev pub added_state : State → State
added_state st = record {
  in_header = st.in_header;
  key = st.key;
  unit = st.unit;
  top = st.top;
  bottom = st.bottom;
  part = st.part;
  notes = st.notes;
  lines = suc st.lines;
  places = st.places;
  opened = st.opened;
  voices = st.voices;
  items = st.items + 1;
}

-- THE ROOM that a line may need in a scratch store of n bytes: two items
pub record Ready (n : ℕ) (st : State) : Type 0 where
  pub lines_fit : st.lines < 10000
  pub voices_fit : st.voices ≤ 32
  pub part_fits : st.part < 32
  pub room : table_end (st.items + 2) ≤ n

-- what a line leaves: at most one item more, and one for each voice that is new
abbrev pub Follows : State → Result State Refused → Type 0
Follows st (Ok t) = (t.lines ≡ suc st.lines) × ((t.voices ≤ 32) × ((t.part < 32) × (t.items + st.voices ≤ suc st.items + t.voices)))
Follows st (Err r) = Unit {0}

-- ONE LINE: o is what the definition makes of it; the items so far stand before its own
pub record Stepped (text s₀ : List ℕ) (st : State) (o : Out) (s : List ℕ) (r : Result State Refused) : Type 0 where
  pub is : out_in text s r ≡ first (items_in text s₀ st.items) o
  pub follows : Follows st r
