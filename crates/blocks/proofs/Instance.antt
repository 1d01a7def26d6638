-- `parse_abc` AS A READER of the frame. What the frame wants to know of a line beside specs/Kinds: its notes, what is refused in it wherever it stands after the
-- first K: line, its items; one reader for each edition.
use Prim.Native.Nat.{ℕ, ◌≤◌}
use mathlib.Core.Path.{◌≡◌}
use mathlib.Core.Bool.{Bool, false}
use mathlib.Core.List.{List, [], ◌∷◌}
use mathlib.Core.Option.{Option}
use lib.Dec.{ltb}
use Rattle.standard.specs.Fields.{Meter}
use Rattle.editions.specs.declared.Edition.{Edition}
use Rattle.reader.specs.Tokens.{Effect, counts, refuses, sets_unit, sets_meter, no_effect}
use Rattle.reader.specs.Lines.{Kind, blank, refused, lyric, voice, key, meter, unit, tune, other, music, kind_of}
use Rattle.reader.specs.Scan.{Item, reset, key_change, meter_change, lyric_line, music_line, Env, ScanState, begin, most_notes, most_lines, note_count, last_unit, last_meter, first_refusal, with_unnamed, voices_before, play_on, voice_on, unit_on, act, step}
use Rattle.reader.specs.Part.{Part}
use Rattle.reader.specs.Answer.{Outcome, most_bytes, scratch_needed, refused_with, early, is_music, finish}
use Rattle.blocks.specs.Kinds.{is_music_line, unit_after, meter_after}
use Rattle.blocks.specs.Frame.{Reader}
use Rattle.blocks.specs.Demand.{Accepted, identifier, part_in}
use Rattle.blocks.proofs.Machine.{Blank, IsUtf8}

-- what proofs about one line open
unfoldable pub scanning : ℕ
unfolding begin note_count last_unit last_meter first_refusal with_unnamed voices_before play_on voice_on unit_on act step
scanning = 0

-- no effect is a refusal
abbrev pub Clear : List Effect → Type 0
Clear [] = Unit {0}
Clear (counts ∷ es) = Clear es
Clear (refuses k ∷ es) = ⊥
Clear (sets_unit v ∷ es) = Clear es
Clear (sets_meter m ∷ es) = Clear es
Clear (no_effect ∷ es) = Clear es

-- the notes of a line
abbrev pub kind_cost : Kind → ℕ
kind_cost blank = 0
kind_cost (refused n) = 0
kind_cost (lyric t) = 0
kind_cost (voice v mid) = 0
kind_cost (key k) = 0
kind_cost (meter m) = 0
kind_cost (unit u) = 0
kind_cost tune = 0
kind_cost other = 0
kind_cost (music hi es l) = note_count es

-- nothing in the line alone is refused after the first K: line
abbrev pub kind_fine : Kind → Type 0
kind_fine blank = Unit {0}
kind_fine (refused n) = ⊥
kind_fine (lyric t) = Unit {0}
kind_fine (voice v mid) = mid ≡ false
kind_fine (key k) = Unit {0}
kind_fine (meter m) = Unit {0}
kind_fine (unit x) = Unit {0}
kind_fine tune = ⊥
kind_fine other = Unit {0}
kind_fine (music hi es l) = (hi ≡ false) × Clear es

-- the items of a line after the first K: line, by the L and M it finds and by whether its part has a place for verses
abbrev pub kind_items : ℕ → Meter → Bool → Kind → List Item
kind_items u m b blank = []
kind_items u m b (refused n) = []
kind_items u m b (lyric t) = lyric_line b t ∷ []
kind_items u m b (voice v mid) = reset ∷ []
kind_items u m b (key k) = key_change k ∷ []
kind_items u m b (meter n) = meter_change n ∷ []
kind_items u m b (unit x) = []
kind_items u m b tune = []
kind_items u m b other = []
kind_items u m b (music hi es l) = music_line u m l ∷ []

-- neither refusal 2 nor 15
abbrev pub Fits : ℕ → ℕ → Type 0
Fits n sl = (n ≤ most_bytes) × (scratch_needed n ≤ sl)

abbrev pub reader : Edition → Reader
reader ed =
    record {
      State = ScanState;
      Env = Env;
      Item = Item;
      Meter = Meter;
      Ans = Outcome;
      Part = Option Part;
      start = begin;
      step = step ed;
      env = λ s. s.env;
      cur = λ s. s.part;
      unit_in = λ s. s.unit;
      meter_in = λ s. s.meter;
      notes = λ s. s.notes;
      lines = λ s. s.lines;
      verse_place = λ s p. ltb p s.places;
      Body = λ e. e.in_header ≡ false;
      ids = λ e. e.voices;
      ident = identifier;
      is_music = λ r. is_music_line (kind_of ed r);
      note_count = λ r. kind_cost (kind_of ed r);
      NotRefused = λ r. kind_fine (kind_of ed r);
      after_l = λ r. unit_after (kind_of ed r);
      after_m = λ r. meter_after (kind_of ed r);
      line_items = λ e u m b r. kind_items u m b (kind_of ed r);
      is_music_item = is_music;
      max_notes = most_notes;
      max_lines = most_lines;
      early = early;
      late = refused_with;
      finish = finish ed;
      Accepted = Accepted;
      part_of = λ w p. part_in w.verdict p;
      Fits = Fits;
      Utf8 = IsUtf8;
      Blank = Blank;
    }
