-- NOTES AND RESTS: their rows, the row that a token defers, and what each does to every part that is represented.
use Rattle.std.specs.Prelude.{ℕ, ◌<◌, ◌≡◌, Bool, false, List, [], ◌∷◌, ◌++◌, length, get_or, None, Some}
use Rattle.laws.specs.Lists.{alter_at}
use Rattle.standard.specs.Pitches as standard
use Rattle.standard.specs.Notes.{Behind, pending_after}
use Rattle.reader.specs.Lengths as reader
use Rattle.reader.specs.Lengths.{value_of}
use Rattle.reader.specs.Pitches.{sound_of, scope_after}
use Rattle.reader.specs.State.{Note}
use Rattle.reader.specs.Part.{sound_note}
use Rattle.part_layout.specs.Log.{LogState, set_scopes, set_pending, append, on_sound}
use Rattle.part_layout.specs.Lines.{Standing}
use Rattle.token_lengths.specs.declared.Length.{Length}
use Rattle.token_lengths.specs.Values.{as_value}
use Rattle.token_pitches.specs.declared.Pitch.{Pitch}
use Rattle.part_rows.specs.declared.NoteRow.{NoteRow}
use Rattle.part_rows.specs.Table.{Only}
use Rattle.part_rows.specs.Encoded.{row_for}
use Rattle.part_accidentals.specs.Resolving.{signs, written_of}
use Rattle.part_registers.specs.declared.Pending.{Pending}
use Rattle.part_registers.specs.declared.Tables.{Tables}
use Rattle.part_registers.specs.declared.Registers.{Registers}
use Rattle.part_registers.specs.Notes.{flags_in}
use Rattle.part_invariant.specs.Invariant.{Room, Represents, Grows, Appendable, Appends}
use Rattle.part_sounds.specs.declared.Deferred.{Deferred}

-- ROWS
abbrev pub rest_row : ℕ → Length → NoteRow
rest_row kind l =
    record { kind = kind; value = (as_value l).value; dots = (as_value l).dots; flags = 0; beam = 0; actual = 0; normal = 0; boundary = 0; pitches = 0 }

abbrev pub sound_row : Length → ℕ → ℕ → NoteRow
sound_row l flags pitches =
    record { kind = 0; value = (as_value l).value; dots = (as_value l).dots; flags = flags; beam = 0; actual = 0; normal = 0; boundary = 0; pitches = pitches }

abbrev pub pending_on : Pending → Bool → Pending
pending_on p tie = record { tie = tie; slur = false; grace = p.grace }

-- with what is pending after a note
abbrev pub with_pending : Registers → Bool → Registers
with_pending r tie =
    record { counts = r.counts; key = r.key; last = r.last; pending = pending_on r.pending tie; line = r.line; half = r.half; tuplet = r.tuplet; verses = r.verses }

-- WHAT A TOKEN LEAVES: registers, and the row that is still to be appended
abbrev pub deferred_nothing : Registers → Deferred
deferred_nothing r = record { registers = r; row = None }

abbrev pub deferred_rest : Registers → ℕ → Length → Deferred
deferred_rest r kind l = record { registers = r; row = Some (rest_row kind l) }

abbrev pub deferred_sound : Registers → Length → Bool → Bool → ℕ → Deferred
deferred_sound r l tie slur pitches = record { registers = with_pending r tie; row = Some (sound_row l (flags_in r.pending tie slur) pitches) }

-- its row, if there is one, can be appended
pub record DeferredFits (t : Tables) (s : List ℕ) (d : Deferred) : Type 0 where
  pub room : (n : NoteRow) → d.row ≡ Some n → Room t d.registers.counts (length s) 0 1 0 0
  pub able : (n : NoteRow) → d.row ≡ Some n → Appendable t s d.registers n

-- its row, if there is one, is appended
pub record DeferredDone (t : Tables) (s : List ℕ) (d : Deferred) (s' : List ℕ) (r' : Registers) : Type 0 where
  pub appended : (n : NoteRow) → d.row ≡ Some n → Appends t s d.registers s' r' n
  pub same_store : d.row ≡ None → s' ≡ s
  pub same_registers : d.row ≡ None → r' ≡ d.registers

-- P holds once that is done
pub record OnceAppended (t : Tables) (s : List ℕ) (d : Deferred) (P : List ℕ → Registers → Type 0) : Type 0 where
  pub able : DeferredFits t s d
  pub done : (s' : List ℕ) (r' : Registers) → DeferredDone t s d s' r' → P s' r'

-- A REST: a note without pitches that has this row
pub record Restable (t : Tables) (s : List ℕ) (r : Registers) (kind : ℕ) (l : Length) : Type 0 where
  pub state : LogState
  pub note : Note
  pub standing : Standing state
  pub row_is : rest_row kind l ≡ row_for note
  pub no_pitch : note.pitches ≡ []
  pub represents : Represents t s r [] state

pub record SimulatesRest (t : Tables) (s : List ℕ) (r : Registers) (s' : List ℕ) (r' : Registers) (kind : ℕ) (length : Length) : Type 0 where
  pub only : Only t.heads t.end s s'
  pub grows : Grows r.counts r'.counts 0 1 0 0
  pub holds : (l : LogState) (m : Note) → Standing l → rest_row kind length ≡ row_for m → m.pitches ≡ [] → Represents t s r [] l → Represents t s' r' [] (append m l)

-- A PITCH
pub record Pushable (t : Tables) (s : List ℕ) (r : Registers) : Type 0 where
  pub state : LogState
  pub extra : List standard.Pitch
  pub overlay_4 : state.line.overlay < 4
  pub represents : Represents t s r extra state

pub record SimulatesPitch (t : Tables) (s : List ℕ) (r : Registers) (s' : List ℕ) (r' : Registers) (p : Pitch) : Type 0 where
  pub only : Only t.heads t.end s s'
  pub grows : Grows r.counts r'.counts 0 0 1 (signs p.sign)
  pub holds : (l : LogState) (extra : List standard.Pitch) → l.line.overlay < 4 → Represents t s r extra l
      → Represents t s' r' (extra ++ (sound_of l.key (get_or l.scopes l.line.overlay []) (written_of p) ∷ [])) (set_scopes (alter_at l.line.overlay (λ old. scope_after old (written_of p)) l.scopes) l)

-- A NOTE OR CHORD whose pitches are there
pub record Soundable (t : Tables) (s : List ℕ) (r : Registers) (count : ℕ) : Type 0 where
  pub state : LogState
  pub pitches : List standard.Pitch
  pub standing : Standing state
  pub count_is : count ≡ length pitches
  pub represents : Represents t s r pitches state

pub record SimulatesSound (t : Tables) (s : List ℕ) (r : Registers) (s' : List ℕ) (r' : Registers) (written : Length) (tie slur : Bool) (count : ℕ) : Type 0 where
  pub only : Only t.heads t.end s s'
  pub grows : Grows r.counts r'.counts 0 1 0 0
  pub holds : (l : LogState) (b : Behind) (ps : List standard.Pitch) → Standing l → b.tie ≡ tie → b.slur ≡ slur → count ≡ length ps → Represents t s r ps l
      → Represents t s' r' [] (append (sound_note (as_value written) l.pending b ps) (set_pending (pending_after l.pending b) l))

-- A NOTE
pub record SimulatesNote (t : Tables) (s : List ℕ) (r : Registers) (s' : List ℕ) (r' : Registers) (p : Pitch) (written : Length) (tie slur : Bool) : Type 0 where
  pub only : Only t.heads t.end s s'
  pub grows : Grows r.counts r'.counts 0 1 1 (signs p.sign)
  pub holds : (l : LogState) (b : Behind) (len : reader.Length) → Standing l → b.tie ≡ tie → b.slur ≡ slur → as_value written ≡ value_of l.line.unit len → Represents t s r [] l
      → Represents t s' r' [] (on_sound (written_of p ∷ []) len b l)
