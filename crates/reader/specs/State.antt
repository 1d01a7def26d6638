-- WHAT A PART IS WHILE ITS ITEMS ARE READ: notes, measures, and what is pending. Lists that grow are kept with the newest first.
use Rattle.std.specs.Prelude.{ℕ, Bool, List, [], ◌∷◌, get_or}
use Rattle.std.proofs.Math.Option.{Option, none, some}
use Rattle.laws.specs.Lists.{all, alter_at, on_first, is_nil}
use Rattle.standard.specs.Pitches.{Pitch}
use Rattle.standard.specs.Keys.{Key, plain_key}
use Rattle.standard.specs.Tuplets.{Tuplet}
use Rattle.standard.specs.Bars.{Barline, normal}
use Rattle.standard.specs.Notes.{NoteKind, Beam, Flags, Pending, nothing_pending}
use Rattle.standard.specs.Fields.{Meter}
use Rattle.reader.specs.Pitches.{Scope}

-- a note in a tuplet: actual and normal (0, 0 if none), boundary
pub record Group : Type 0 where
  pub actual : ℕ
  pub normal : ℕ
  pub boundary : ℕ

-- document 01, Note: value 0 to 9, 10 for a whole bar
pub record Note : Type 0 where
  pub kind : NoteKind
  pub value : ℕ
  pub dots : ℕ
  pub flags : Flags
  pub beam : Beam
  pub group : Group
  pub pitches : List Pitch

-- document 01, Measure: "volta (0 none, 1 begin, 2 end, 3 begin and end)"
pub data Volta : Type 0 where
  no_volta volta_begins volta_ends volta_alone : Volta

-- document 01, Measure; its four voices, each with the last note first while it is read; passes in rising order
pub record Measure : Type 0 where
  pub voices : List (List Note)
  pub left : Barline
  pub right : Barline
  pub meter : Meter
  pub key : Option Key
  pub volta : Volta
  pub passes : List ℕ

-- a broken rhythm's half for the next note: dotted (true) or halved, how often
pub record Half : Type 0 where
  pub up : Bool
  pub times : ℕ

-- a tuplet being read, and how many of its notes are to come
pub record Running : Type 0 where
  pub tuplet : Tuplet
  pub remaining : ℕ

-- WHAT ENDS WITH THE LINE: the unit and meter in force; the overlay voice 0 to 3; the length of the beam's run; a half; a tuplet
pub record Line : Type 0 where
  pub unit : ℕ
  pub meter : Meter
  pub overlay : ℕ
  pub run : ℕ
  pub half : Option Half
  pub tuplet : Option Running

-- a lyric line: its first note (of voice 0, no rest), its verse, its text
pub record Sung : Type 0 where
  pub start : ℕ
  pub verse : ℕ
  pub text : List ℕ

-- FOR THE LYRICS: the notes of voice 0 that are no rests, so far; the first of the latest music line; its next verse; the lyric lines
pub record Verses : Type 0 where
  pub sounded : ℕ
  pub start : ℕ
  pub verse : ℕ
  pub lines : List Sung

-- A PART: its key, the scopes of its four overlay voices, its measures, and the three groups above
pub record PartState : Type 0 where
  pub key : Key
  pub scopes : List Scope
  pub measures : List Measure
  pub pending : Pending
  pub verses : Verses
  pub line : Line

-- CHANGING ONE THING
abbrev pub with_beam : Beam → Note → Note
with_beam b n = record { kind = n.kind; value = n.value; dots = n.dots; flags = n.flags; beam = b; group = n.group; pitches = n.pitches }

abbrev pub with_value : ℕ → ℕ → Note → Note
with_value v d n = record { kind = n.kind; value = v; dots = d; flags = n.flags; beam = n.beam; group = n.group; pitches = n.pitches }

abbrev pub with_group : Group → Note → Note
with_group g n = record { kind = n.kind; value = n.value; dots = n.dots; flags = n.flags; beam = n.beam; group = g; pitches = n.pitches }

abbrev pub with_voices : List (List Note) → Measure → Measure
with_voices v m = record { voices = v; left = m.left; right = m.right; meter = m.meter; key = m.key; volta = m.volta; passes = m.passes }

abbrev pub with_left : Barline → Measure → Measure
with_left l m = record { voices = m.voices; left = l; right = m.right; meter = m.meter; key = m.key; volta = m.volta; passes = m.passes }

abbrev pub with_right : Barline → Measure → Measure
with_right r m = record { voices = m.voices; left = m.left; right = r; meter = m.meter; key = m.key; volta = m.volta; passes = m.passes }

abbrev pub with_meter : Meter → Measure → Measure
with_meter t m = record { voices = m.voices; left = m.left; right = m.right; meter = t; key = m.key; volta = m.volta; passes = m.passes }

abbrev pub with_key_mark : Key → Measure → Measure
with_key_mark k m = record { voices = m.voices; left = m.left; right = m.right; meter = m.meter; key = some k; volta = m.volta; passes = m.passes }

abbrev pub with_volta : Volta → List ℕ → Measure → Measure
with_volta v ps m = record { voices = m.voices; left = m.left; right = m.right; meter = m.meter; key = m.key; volta = v; passes = ps }

abbrev pub set_key : Key → PartState → PartState
set_key k s = record { key = k; scopes = s.scopes; measures = s.measures; pending = s.pending; verses = s.verses; line = s.line }

abbrev pub set_scopes : List Scope → PartState → PartState
set_scopes sc s = record { key = s.key; scopes = sc; measures = s.measures; pending = s.pending; verses = s.verses; line = s.line }

abbrev pub set_measures : List Measure → PartState → PartState
set_measures ms s = record { key = s.key; scopes = s.scopes; measures = ms; pending = s.pending; verses = s.verses; line = s.line }

abbrev pub set_pending : Pending → PartState → PartState
set_pending p s = record { key = s.key; scopes = s.scopes; measures = s.measures; pending = p; verses = s.verses; line = s.line }

abbrev pub set_verses : Verses → PartState → PartState
set_verses v s = record { key = s.key; scopes = s.scopes; measures = s.measures; pending = s.pending; verses = v; line = s.line }

abbrev pub set_line : Line → PartState → PartState
set_line l s = record { key = s.key; scopes = s.scopes; measures = s.measures; pending = s.pending; verses = s.verses; line = l }

abbrev pub with_run : ℕ → Line → Line
with_run r l = record { unit = l.unit; meter = l.meter; overlay = l.overlay; run = r; half = l.half; tuplet = l.tuplet }

-- another overlay voice ends the beam's run
abbrev pub with_overlay : ℕ → Line → Line
with_overlay o l = record { unit = l.unit; meter = l.meter; overlay = o; run = 0; half = l.half; tuplet = l.tuplet }

abbrev pub with_half : Option Half → Line → Line
with_half h l = record { unit = l.unit; meter = l.meter; overlay = l.overlay; run = l.run; half = h; tuplet = l.tuplet }

abbrev pub with_tuplet : Option Running → Line → Line
with_tuplet t l = record { unit = l.unit; meter = l.meter; overlay = l.overlay; run = l.run; half = l.half; tuplet = t }

abbrev pub with_unit : ℕ → Line → Line
with_unit u l = record { unit = u; meter = l.meter; overlay = l.overlay; run = l.run; half = l.half; tuplet = l.tuplet }

abbrev pub with_time : Meter → Line → Line
with_time t l = record { unit = l.unit; meter = t; overlay = l.overlay; run = l.run; half = l.half; tuplet = l.tuplet }

-- THE BEGINNING
abbrev pub no_scopes : List Scope
no_scopes = [] ∷ [] ∷ [] ∷ [] ∷ []

-- a new measure: no notes, its left barline, the meter in force
unfoldable pub new_measure : Meter → Barline → Measure
new_measure t left = record { voices = [] ∷ [] ∷ [] ∷ [] ∷ []; left = left; right = normal; meter = t; key = none; volta = no_volta; passes = [] }

-- a line that begins, with the L and M in force
unfoldable pub new_line : ℕ → Meter → Line
new_line u t = record { unit = u; meter = t; overlay = 0; run = 0; half = none; tuplet = none }

-- a part before its first item: C major, nothing pending
unfoldable pub new_part : PartState
new_part =
    record {
      key = plain_key;
      scopes = no_scopes;
      measures = [];
      pending = nothing_pending;
      verses = record { sounded = 0; start = 0; verse = 1; lines = [] };
      line = new_line 8 (4, 4);
    }

-- THE OPEN MEASURE is the part's last
unfoldable pub on_open : (Measure → Measure) → PartState → PartState
on_open f s = set_measures (on_first f s.measures) s

-- no voice has a note
abbrev pub is_empty : Measure → Bool
is_empty m = all is_nil m.voices

-- the notes of the overlay voice in the open measure, the last one first
unfoldable pub voice_in : ℕ → List Measure → List Note
voice_in o [] = []
voice_in o (m ∷ ms) = get_or m.voices o []

-- the voice being written
unfoldable pub voice_now : PartState → List Note
voice_now s = voice_in s.line.overlay s.measures

-- that voice with other notes
unfoldable pub set_voice : List Note → PartState → PartState
set_voice v s = on_open (λ m. with_voices (alter_at s.line.overlay (λ old. v) m.voices) m) s
