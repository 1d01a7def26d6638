-- THE ROWS OF A PART'S TABLES in scratch: notes, pitches, accidentals. Measures: crate part_measures.
use Rattle.std.specs.Prelude.{ℕ, ◌+◌, List, [], ◌∷◌, ◌++◌, length}
use Rattle.laws.specs.Bytes.{le32}
use Rattle.standard.specs.Pitches.{Pitch}
use Rattle.standard.specs.Notes.{Flags}
use Rattle.reader.specs.State.{Note}
use Rattle.reader.specs.Codes.{kind_code, beam_code, bit}
use Rattle.bounds.specs.Weights as bounds
use Rattle.reader.specs.Records.{pitch_width, signed8, signed16}
use Rattle.part_rows.specs.declared.NoteRow.{NoteRow}
use Rattle.part_rows.specs.declared.Sounded.{Sounded}

-- WIDTHS
abbrev pub note_row_width : ℕ
note_row_width = bounds.note_row_width

abbrev pub pitch_row_width : ℕ
pitch_row_width = pitch_width

abbrev pub scope_row_width : ℕ
scope_row_width = bounds.scope_row_width

-- the index before these rows
abbrev pub scope_index_width : ℕ
scope_index_width = bounds.scope_index_width

-- WHERE THE FIELDS OF A NOTE'S ROW STAND; the first twelve bytes are where the note record has them
abbrev pub kind_at : ℕ
kind_at = 0

abbrev pub value_at : ℕ
value_at = 1

abbrev pub dots_at : ℕ
dots_at = 2

abbrev pub flags_at : ℕ
flags_at = 3

abbrev pub beam_at : ℕ
beam_at = 4

abbrev pub pitch_count_at : ℕ
pitch_count_at = 8

abbrev pub voice_at : ℕ
voice_at = 12

-- WHERE THE FIELDS OF A ROW OF ACCIDENTALS STAND, behind its step; of each slot the first byte says whether it holds one
abbrev pub scope_octave_at : ℕ
scope_octave_at = 1

abbrev pub scope_slots_at : ℕ
scope_slots_at = 4

abbrev pub scope_slot_width : ℕ
scope_slot_width = 3

abbrev pub slot_alter_at : ℕ
slot_alter_at = 1

abbrev pub slot_cents_at : ℕ
slot_cents_at = 2

-- a note's flags but the last, which is known at the end only
unfoldable pub flags_byte : Flags → ℕ
flags_byte f = bit f.tie_start 1 + bit f.tie_end 2 + bit f.slur_start 4 + bit f.slur_end 8 + bit f.grace 16

-- a note as the code has it
abbrev pub row_for : Note → NoteRow
row_for n =
    record {
      kind = kind_code n.kind;
      value = n.value;
      dots = n.dots;
      flags = flags_byte n.flags;
      beam = beam_code n.beam;
      actual = n.group.actual;
      normal = n.group.normal;
      boundary = n.group.boundary;
      pitches = length n.pitches;
    }

-- its bytes: the note record's but flag 32, the voice, three zeros
unfoldable pub row_bytes : NoteRow → ℕ → List ℕ
row_bytes n voice =
    (n.kind ∷ n.value ∷ n.dots ∷ n.flags ∷ [])
    ++ (n.beam ∷ n.actual ∷ n.normal ∷ n.boundary ∷ [])
    ++ le32 n.pitches
    ++ (voice ∷ 0 ∷ 0 ∷ 0 ∷ [])

-- a note and its voice
abbrev pub note_row : ℕ × Note → List ℕ
note_row x = row_bytes (row_for x.1) x.0

-- a pitch as the code has it
abbrev pub pitch_for : Pitch → Sounded
pitch_for p = record { step = p.step; octave = p.octave; alter = p.alter; cents = p.cents }

-- its bytes: pitch_bytes (`pitch_row_lem`)
unfoldable pub pitch_row : Sounded → List ℕ
pitch_row p = p.step ∷ signed8 p.octave ∷ signed8 p.alter ∷ signed16 p.cents

-- a step and octave with accidentals in force: its bytes before one is given, with a slot of three bytes for each of four overlay voices
abbrev pub scope_row : ℕ → ℕ → List ℕ
scope_row step octave = (step ∷ octave ∷ 0 ∷ 0 ∷ []) ++ (0 ∷ 0 ∷ 0 ∷ 0 ∷ []) ++ (0 ∷ 0 ∷ 0 ∷ 0 ∷ []) ++ (0 ∷ 0 ∷ 0 ∷ 0 ∷ [])

-- an accidental in a slot
abbrev pub scope_slot : ℕ → ℕ → List ℕ
scope_slot alter cents = 1 ∷ alter ∷ cents ∷ []
