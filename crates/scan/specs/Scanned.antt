-- The answer of the scan, and what scratch holds then.
use Rattle.std.specs.Prelude.{ℕ, ◌+◌, ◌≤◌, ◌<◌, ◌≡◌, Bool, List, ltb, length, Result, Ok, Err}
use Rattle.laws.specs.Lists.{any}
use Rattle.editions.specs.declared.Edition.{Edition}
use Rattle.reader.specs.Text.{text_lines}
use Rattle.reader.specs.Steps.{refuse, on}
use Rattle.reader.specs.Scan.{Item, Items, ScanState, Out, scan}
use Rattle.reader.specs.Answer.{is_music}
use Rattle.refusals.specs.declared.Refused.{Refused}
use Rattle.refusals.specs.Numbers.{number_of}
use Rattle.field_keys.specs.Passed.{key_as}
use Rattle.scan_table.specs.Rows.{table_end, voices_in, items_in}
use Rattle.scan_states.specs.declared.State.{State}
use Rattle.scan_states.specs.States.{Stepped}
use Rattle.scan.specs.declared.Shared.{Shared}

-- before a line: there is room for what it may write
pub record Open (n : ℕ) (st : State) : Type 0 where
  pub lines_fit : st.lines ≤ 10000
  pub voices_fit : st.voices ≤ 32
  pub part_fits : st.part < 32
  pub room : table_end (st.items + 2) ≤ n

-- a line, after which there are 10,000 at most
abbrev pub LinesFit : Result State Refused → Type 0
LinesFit (Ok t) = t.lines ≤ 10000
LinesFit (Err r) = Unit {0}

pub record Line (text s₀ : List ℕ) (st : State) (o : Out) (s : List ℕ) (r : Result State Refused) : Type 0 where
  pub stepped : Stepped text s₀ st o s r
  pub lines_fit : LinesFit r

-- what is handed on
abbrev pub shared_of : State → Shared
shared_of st = record { voices = st.voices; key = st.key; items = st.items; music = ltb 0 st.places }

-- some item is of a music line
abbrev pub has_music : Items → Bool
has_music a = any (λ (x : ℕ × Item). is_music x.1) a

-- THE ITEMS of the definition stand in the line table, the voices' identifiers in their rows. Room: each row of the text gives one item at most,
-- and one more where it names a new voice
pub record Done (ed : Edition) (text s : List ℕ) (h : Shared) : Type 0 where
  pub state : ScanState
  pub scanned : scan ed (text_lines text) ≡ on state (items_in text s h.items)
  pub voices : state.env.voices ≡ voices_in text s h.voices
  pub key : state.env.header_key ≡ key_as h.key
  pub music : h.music ≡ has_music (items_in text s h.items)
  pub few_voices : h.voices ≤ 32
  pub room : h.items ≤ length text + h.voices

abbrev pub Answered : Edition → List ℕ → List ℕ → Result Shared Refused → Type 0
Answered ed text s (Ok h) = Done ed text s h
Answered ed text s (Err r) = scan ed (text_lines text) ≡ refuse (number_of r.refusal) r.line

pub record ScanIs (ed : Edition) (text s : List ℕ) (r : Result Shared Refused) : Type 0 where
  pub answered : Answered ed text s r
