-- CHORDS: a chord's pitches by its place in the line, and what a chord does to every part that is represented.
use Rattle.std.specs.Prelude.{ℕ, ◌≡◌, Bool, List, [], length, get_or, drop}
use Rattle.std.proofs.Math.Option.{Option, none, some}
use Rattle.laws.specs.Lists.{alter_at}
use Rattle.standard.specs.Pitches.{Written}
use Rattle.standard.specs.Notes.{Behind}
use Rattle.reader.specs.Lengths as reader
use Rattle.reader.specs.Lengths.{value_of}
use Rattle.reader.specs.Pitches.{chord_of, sounds_of, scope_after_all}
use Rattle.part_layout.specs.Log.{LogState, set_scopes, on_sound}
use Rattle.part_layout.specs.Lines.{Standing}
use Rattle.token_lengths.specs.declared.Length.{Length}
use Rattle.token_lengths.specs.Values.{as_value}
use Rattle.capacity.specs.Covers.{signs_in}
use Rattle.part_rows.specs.Table.{Only}
use Rattle.part_registers.specs.declared.Tables.{Tables}
use Rattle.part_registers.specs.declared.Registers.{Registers}
use Rattle.part_invariant.specs.Invariant.{Represents, Grows}

-- none where one is refused
unfoldable pub pitches_or : Option (List Written) → List Written
pitches_or none = []
pitches_or (some ws) = ws

-- the pitches of the chord whose `[` stands before a place
abbrev pub chord_in : List ℕ → ℕ → List Written
chord_in line place = pitches_or (chord_of 0 none (drop place line))

-- there is one, of so many pitches
pub record ChordAt (line : List ℕ) (place count : ℕ) : Type 0 where
  pub fine : chord_of 0 none (drop place line) ≡ some (chord_in line place)
  pub count_is : count ≡ length (chord_in line place)

-- PITCHES PUSHED, each resolved after the ones before it
pub record SimulatesPitches (t : Tables) (s : List ℕ) (r : Registers) (s' : List ℕ) (r' : Registers) (ws : List Written) : Type 0 where
  pub only : Only t.heads t.end s s'
  pub grows : Grows r.counts r'.counts 0 0 (length ws) (signs_in ws)
  pub holds : (l : LogState) → Standing l → Represents t s r [] l
      → Represents t s' r' (sounds_of l.key (get_or l.scopes l.line.overlay []) ws)
      (set_scopes (alter_at l.line.overlay (λ old. scope_after_all (get_or l.scopes l.line.overlay []) ws) l.scopes) l)

-- A CHORD
pub record SimulatesChord (t : Tables) (s : List ℕ) (r : Registers) (s' : List ℕ) (r' : Registers) (ws : List Written) (written : Length) (tie slur : Bool) : Type 0 where
  pub only : Only t.heads t.end s s'
  pub grows : Grows r.counts r'.counts 0 1 (length ws) (signs_in ws)
  pub holds : (l : LogState) (b : Behind) (len : reader.Length) → Standing l → b.tie ≡ tie → b.slur ≡ slur → as_value written ≡ value_of l.line.unit len → Represents t s r [] l
      → Represents t s' r' [] (on_sound ws len b l)
