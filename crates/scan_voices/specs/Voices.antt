-- The voices that a V line finds, and the state once another part is read.
use Rattle.std.specs.Prelude.{ℕ, suc, ◌≤◌, ◌≡◌, List}
use Rattle.reader.specs.Scan.{with_unnamed}
use Rattle.scan_table.specs.Rows.{voices_in, items_in}
use Rattle.scan_states.specs.declared.State.{State}

-- part i, one line further
abbrev pub moved_to : State → ℕ → State
moved_to st i = record {
  in_header = st.in_header;
  key = st.key;
  unit = st.unit;
  top = st.top;
  bottom = st.bottom;
  part = i;
  notes = st.notes;
  lines = suc st.lines;
  places = st.places;
  opened = st.opened;
  voices = st.voices;
  items = st.items;
}

-- the numbers of a state with n voices, m items, one line further in part i
pub record Moved (st : State) (n i m : ℕ) (r : State) : Type 0 where
  pub lines : r.lines ≡ suc st.lines
  pub voices : r.voices ≡ n
  pub part : r.part ≡ i
  pub items : r.items ≡ m

-- n voices stand in scratch, which was s: those of the state, or the unnamed one
pub record Unnamed (text s : List ℕ) (st : State) (s' : List ℕ) (n : ℕ) : Type 0 where
  pub voices : voices_in text s' n ≡ with_unnamed st.opened (voices_in text s st.voices)
  pub items : items_in text s' st.items ≡ items_in text s st.items
  pub low : st.voices ≤ n
  pub high : n ≤ 32
