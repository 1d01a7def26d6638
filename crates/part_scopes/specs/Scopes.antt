-- ACCIDENTALS IN FORCE, IN SCRATCH: an index with an entry for each step and octave, and behind it a row for each of those that had an accidental in the measure, with a slot for each
-- overlay voice. An entry is the place of a row, from 1. It is believed only if there is a row at that place and the row is of the entry's step and octave: what older measures left in the
-- index does no harm, and nothing is cleared.
use Rattle.std.specs.Prelude.{ℕ, ◌+◌, ◌-◌, ◌*◌, ◌<◌, ◌≡◌, Bool, false, cond, ◌&&◌, List, [], ◌∷◌, eqb, leb, ltb, length, get_or}
use Rattle.std.proofs.Math.Option.{Option, none, some}
use Rattle.laws.specs.Bytes.{splice, le32, u32_at}
use Rattle.standard.specs.Pitches.{Written, Pitch}
use Rattle.reader.specs.Pitches.{Scope, remembered}
use Rattle.part_rows.specs.Encoded.{scope_row, scope_row_width, scope_index_width, scope_octave_at, scope_slots_at, scope_slot_width, slot_alter_at, slot_cents_at}

-- where the entry of a step and octave stands
abbrev pub entry_at : ℕ → ℕ → ℕ → ℕ
entry_at at step octave = at + 4 * (256 * step + octave)

-- the row of a place
abbrev pub row_at : ℕ → ℕ → ℕ
row_at at p = at + scope_index_width + scope_row_width * (p - 1)

-- a voice's slot in it
abbrev pub slot_at : ℕ → ℕ → ℕ → ℕ
slot_at at p voice = row_at at p + scope_slots_at + scope_slot_width * voice

-- there are rows up to this place, and the one there is of this step and octave
unfoldable pub believed : List ℕ → ℕ → ℕ → ℕ → ℕ → ℕ → Bool
believed s at count step octave p = (ltb 0 p && leb p count) && (eqb (get_or s (row_at at p) 0) step && eqb (get_or s (row_at at p + scope_octave_at) 0) octave)

-- the place of the row of a step and octave; 0 for none
unfoldable pub place_in : List ℕ → ℕ → ℕ → ℕ → ℕ → ℕ
place_in s at count step octave = cond (believed s at count step octave (u32_at s (entry_at at step octave))) (u32_at s (entry_at at step octave)) 0

-- the row of a place has an accidental for a voice
unfoldable pub is_given : List ℕ → ℕ → ℕ → ℕ → Bool
is_given s at p voice = cond (eqb p 0) false (eqb (get_or s (slot_at at p voice) 0) 1)

-- the accidental in the slot that stands at k
unfoldable pub held_at : List ℕ → ℕ → ℕ → ℕ → Option Pitch
held_at s k step octave = cond (eqb (get_or s k 0) 1) (some (record { step = step; octave = octave; alter = get_or s (k + slot_alter_at) 0; cents = get_or s (k + slot_cents_at) 0 })) none

-- the accidental in force for a voice, by the place of its row
unfoldable pub recalled_at : List ℕ → ℕ → ℕ → ℕ → ℕ → ℕ → Option Pitch
recalled_at s at p voice step octave = cond (eqb p 0) none (held_at s (slot_at at p voice) step octave)

abbrev pub recalled : List ℕ → ℕ → ℕ → ℕ → ℕ → ℕ → Option Pitch
recalled s at count voice step octave = recalled_at s at (place_in s at count step octave) voice step octave

-- A ROW MORE, for a step and octave that have none, with its entry
unfoldable pub with_row : List ℕ → ℕ → ℕ → ℕ → ℕ → List ℕ
with_row s at count step octave = splice (splice s (row_at at (count + 1)) (scope_row step octave)) (entry_at at step octave) (le32 (count + 1))

-- the place of a voice's newest accidental; 0 if it has none
abbrev pub Newest : List ℕ → ℕ → ℕ → ℕ → Scope → Type 0
Newest s at count place [] = place ≡ 0
Newest s at count place (x ∷ xs) = (0 < place) × (x.step < 7) × (x.octave < 256) × (place_in s at count x.step x.octave ≡ place)

-- THE FOUR SCOPES, by their places, in a table of so many rows
pub record Scoped (s : List ℕ) (at count : ℕ) (places : List ℕ) (scopes : List Scope) : Type 0 where
  pub places_4 : length places ≡ 4
  pub scopes_4 : length scopes ≡ 4
  pub recalls : (v : ℕ) (w : Written) → v < 4 → w.step < 7 → w.octave < 256 → remembered (get_or scopes v []) w ≡ recalled s at count v w.step w.octave
  pub newest : (v : ℕ) → v < 4 → Newest s at count (get_or places v 0) (get_or scopes v [])
