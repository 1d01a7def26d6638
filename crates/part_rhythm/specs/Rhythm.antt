-- The last note's row and the registers by the code's values.
use Rattle.std.specs.Prelude.{ℕ, ◌+◌, ◌-◌, ◌*◌, Bool, cond, List, [], ◌∷◌, eqb, get_or, Option, None, Some}
use Rattle.laws.specs.Bytes.{splice}
use Rattle.standard.specs.Lengths.{Value}
use Rattle.token_lengths.specs.Values.{as_value, broken_length}
use Rattle.part_registers.specs.declared.Registers.{Registers}
use Rattle.part_registers.specs.declared.Half.{Half}
use Rattle.part_registers.specs.Notes.{beams, length_in, run_again}
use Rattle.part_rows.specs.Encoded.{note_row_width, value_at, dots_at, beam_at}

-- the place of the last note of the voice being written
abbrev pub place_of : Registers → ℕ
place_of r = get_or r.last r.line.overlay 0

-- and its row
unfoldable pub row_of : Registers → Option ℕ
row_of r = cond (eqb (place_of r) 0) None (Some (place_of r - 1))

-- a note's value and dots after broken rhythm
abbrev pub broken_value : Bool → ℕ → ℕ → ℕ → Value
broken_value up times value dots = as_value (broken_length up times (length_in value dots))

-- its two bytes; and the row at a place after it
abbrev pub value_bytes : Value → List ℕ
value_bytes w = w.value ∷ w.dots ∷ []

abbrev pub broken_store : List ℕ → ℕ → Bool → ℕ → List ℕ
broken_store s place up times = splice s (place + value_at) (value_bytes (broken_value up times (get_or s (place + value_at) 0) (get_or s (place + dots_at) 0)))

-- the same for the row there may be
unfoldable pub broken_in : List ℕ → ℕ → Option ℕ → Bool → ℕ → List ℕ
broken_in s at None up times = s
broken_in s at (Some i) up times = broken_store s (at + note_row_width * i) up times

-- where a note is broken its other half waits
unfoldable pub half_after : Option Half → Option ℕ → Half → Option Half
half_after before None half = before
half_after before (Some i) half = Some half

-- what the beam step writes for a note of this kind and value; and the row at a place after it
unfoldable pub again_beam : ℕ → ℕ → ℕ → List ℕ
again_beam run kind value = cond (beams kind value) (cond (eqb run 0) [] (3 ∷ [])) (0 ∷ [])

abbrev pub again_store : List ℕ → ℕ → ℕ → ℕ → ℕ → List ℕ
again_store s place run kind value = splice s (place + beam_at) (again_beam run kind value)

-- the same for the note whose row stands at a place, and the run after it
abbrev pub again_in : List ℕ → ℕ → ℕ → List ℕ
again_in s place run = again_store s place run (get_or s place 0) (get_or s (place + value_at) 0)

abbrev pub again_run : List ℕ → ℕ → ℕ → ℕ
again_run s place run = run_again run (get_or s place 0) (get_or s (place + value_at) 0)

-- and for the row there may be
unfoldable pub again_at : List ℕ → ℕ → Option ℕ → ℕ → List ℕ
again_at s at None run = s
again_at s at (Some i) run = again_in s (at + note_row_width * i) run

unfoldable pub run_at : List ℕ → ℕ → Option ℕ → ℕ → ℕ
run_at s at None run = 0
run_at s at (Some i) run = again_run s (at + note_row_width * i) run

-- another half; another run
abbrev pub half_waits : Registers → Option Half → Registers
half_waits r h =
    record {
      counts = r.counts;
      key = r.key;
      last = r.last;
      pending = r.pending;
      line = r.line;
      half = h;
      tuplet = r.tuplet;
      verses = r.verses;
    }

abbrev pub runs : Registers → ℕ → Registers
runs r run =
    record {
      counts = r.counts;
      key = r.key;
      last = r.last;
      pending = r.pending;
      line = record { unit = r.line.unit; top = r.line.top; bottom = r.line.bottom; overlay = r.line.overlay; run = run };
      half = r.half;
      tuplet = r.tuplet;
      verses = r.verses;
    }
