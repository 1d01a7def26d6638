-- What a music line comes to in the scan: the definition's count of notes, L and M after it, and its first refusal, in one answer.
use Rattle.std.specs.Prelude.{ℕ, suc, ◌+◌, max, ◌||◌, List, eqb, Result, Ok, Err}
use Rattle.std.proofs.Math.Option.{Option, none, some}
use Rattle.reader.specs.Tokens.{Effect}
use Rattle.reader.specs.Scan.{note_count, last_unit, last_meter, first_refusal}
use Rattle.refusals.specs.declared.Refusal.{Refusal}
use Rattle.refusals.specs.Numbers.{number_of}
use Rattle.scan_states.specs.declared.State.{State}
use Rattle.scan_music.specs.declared.Count.{Count}

-- what the tokens so far come to: the count, or a refusal, by its number
abbrev pub by_number : Result Count Refusal → Result Count ℕ
by_number (Ok p) = Ok p
by_number (Err r) = Err (number_of r)

-- effects, after these notes and with this L and M, unless one is refused
unfoldable pub counted_as : Count → List Effect → Option ℕ → Result Count ℕ
counted_as p es (some k) = Err k
counted_as p es none =
    Ok (record { notes = p.notes + note_count es; unit = last_unit es p.unit; top = (last_meter es (p.top, p.bottom)).0; bottom = (last_meter es (p.top, p.bottom)).1 })

unfoldable pub counted_for : Count → List Effect → Result Count ℕ
counted_for p es = counted_as p es (first_refusal p.notes es)

-- the same from what the tokens before come to
unfoldable pub counted_on : Result Count ℕ → List Effect → Result Count ℕ
counted_on (Ok p) es = counted_for p es
counted_on (Err k) es = Err k

-- the state behind a music line: one item and one line more, a place for verses for every part up to this one
abbrev pub state_after : State → Count → State
state_after st q = record {
  in_header = st.in_header;
  key = st.key;
  unit = q.unit;
  top = q.top;
  bottom = q.bottom;
  part = st.part;
  notes = q.notes;
  lines = suc st.lines;
  places = max st.places (suc st.part);
  opened = st.opened || eqb st.part 0;
  voices = st.voices;
  items = st.items + 1;
}
