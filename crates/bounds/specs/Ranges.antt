-- WHAT FITS IN A RECORD: the range of each number that a record holds in a byte, from a token to a part.
use Rattle.std.specs.Prelude.{ℕ, ◌^◌, ◌≤◌, ◌<◌, ◌≡◌, Bool, not, ◌&&◌, List, [], ◌∷◌, map, T, ltb, eqb, length}
use Rattle.std.proofs.Math.Option.{Option, none, some}
use Rattle.laws.specs.Lists.{All}
use Rattle.standard.specs.Pitches.{Accidental, Written, Pitch}
use Rattle.standard.specs.Fields.{Meter}
use Rattle.reader.specs.Token.{Token, space, overlay, quoted, broken, tuplet, slur, grace_open, grace_close, decoration, barline, volta, unit, meter, key, field, chord, rest, note, nothing, skipped, refused}
use Rattle.reader.specs.Scan.{Item, voice_declared, reset, key_in_header, key_change, meter_change, lyric_line, music_line}
use Rattle.reader.specs.State.{Note, Measure, Volta, no_volta, volta_begins, volta_ends, volta_alone, Running, Sung, PartState}
use Rattle.reader.specs.Voltas.{closed}
use Rattle.reader.specs.Lyrics.{Syllable}
use Rattle.reader.specs.Part.{Part}
use Rattle.reader.specs.Records.{pass_bits, notes_of, pitches_of, lyrics, lyric_text}

-- every byte is one
abbrev pub Bytes : List ℕ → Type 0
Bytes s = All (λ b. b < 256) s

-- top and bottom of a meter
abbrev pub MeterFits : Meter → Type 0
MeterFits m = (m.0 < 256) × (m.1 < 256)

-- passes rise strictly above `low`, up to 32
unfoldable pub PassesFit : ℕ → List ℕ → Type 0
PassesFit low [] = Unit {0}
PassesFit low (a ∷ ps) = (low < a) × ((a ≤ 32) × PassesFit a ps)

-- an accidental, if there is one: both with 128 added
unfoldable pub SignFits : Option Accidental → Type 0
SignFits none = Unit {0}
SignFits (some a) = (a.alter < 256) × (a.cents < 256)

-- a pitch as written
pub record WrittenFits (w : Written) : Type 0 where
  pub step_fits : w.step < 7
  pub octave_fits : w.octave < 256
  pub mark_fits : SignFits w.sign

-- a pitch as sounded
pub record PitchFits (p : Pitch) : Type 0 where
  pub step_fits : p.step < 7
  pub octave_fits : p.octave < 256
  pub alter_fits : p.alter < 256
  pub cents_fits : p.cents < 256

-- the number of a refusal that a line gives: a byte, and neither 15 nor 16, which are about the stores
abbrev pub is_line_refusal : ℕ → Bool
is_line_refusal n = ltb n 256 && not (eqb n 15) && not (eqb n 16)

-- the same as a type
abbrev pub LineRefusal : ℕ → Type 0
LineRefusal n = T (is_line_refusal n)

-- a token
unfoldable pub TokenFits : Token → Type 0
TokenFits space = Unit {0}
TokenFits overlay = Unit {0}
TokenFits quoted = Unit {0}
TokenFits (broken up n) = n < 256
TokenFits (tuplet t) = (t.actual < 256) × (t.normal < 256)
TokenFits slur = Unit {0}
TokenFits grace_open = Unit {0}
TokenFits grace_close = Unit {0}
TokenFits decoration = Unit {0}
TokenFits (barline b o) = Unit {0}
TokenFits (volta ps) = PassesFit 0 ps
TokenFits (unit u) = Unit {0}
TokenFits (meter m) = MeterFits m
TokenFits (key k) = Unit {0}
TokenFits field = Unit {0}
TokenFits (chord ws l b) = All WrittenFits ws
TokenFits (rest k l) = Unit {0}
TokenFits (note w l b) = WrittenFits w
TokenFits nothing = Unit {0}
TokenFits skipped = Unit {0}
TokenFits (refused n) = LineRefusal n

-- a note
pub record NoteFits (n : Note) : Type 0 where
  pub value_fits : n.value ≤ 10
  pub dots_fit : n.dots ≤ 3
  pub actual_fits : n.group.actual < 256
  pub normal_fits : n.group.normal < 256
  pub boundary_fits : n.group.boundary < 4
  pub pitches_fit : All PitchFits n.pitches

-- a measure
pub record MeasureFits (m : Measure) : Type 0 where
  pub voices_fit : All (All NoteFits) m.voices
  pub meter_fits : MeterFits m.meter
  pub passes_fit : PassesFit 0 m.passes

-- before the voltas of a part are closed only starts are marked
unfoldable pub VoltaOpen : Volta → Type 0
VoltaOpen no_volta = Unit {0}
VoltaOpen volta_begins = Unit {0}
VoltaOpen volta_ends = ⊥
VoltaOpen volta_alone = ⊥

-- a measure while its part is read
pub record OpenFits (m : Measure) : Type 0 where
  pub fits : MeasureFits m
  pub volta_open : VoltaOpen m.volta

-- a tuplet that is being read, if there is one
unfoldable pub RunningFits : Option Running → Type 0
RunningFits none = Unit {0}
RunningFits (some r) = (r.tuplet.actual < 256) × (r.tuplet.normal < 256)

-- a verse
abbrev pub VerseFits : ℕ → Type 0
VerseFits v = (1 ≤ v) × (v ≤ 32)

-- a lyric line
pub record SungFits (l : Sung) : Type 0 where
  pub verse_fits : VerseFits l.verse
  pub text_fits : Bytes l.text

-- a syllable
pub record SyllableFits (y : Syllable) : Type 0 where
  pub verse_fits : VerseFits y.verse
  pub text_fits : Bytes y.text

-- a part while it is read
pub record StateFits (s : PartState) : Type 0 where
  pub measures_fit : All OpenFits s.measures
  pub scopes_fit : All (All PitchFits) s.scopes
  pub meter_fits : MeterFits s.line.meter
  pub tuplet_fits : RunningFits s.line.tuplet
  pub verse_fits : VerseFits s.verses.verse
  pub lines_fit : All SungFits s.verses.lines

-- an item
unfoldable pub ItemFits : Item → Type 0
ItemFits (voice_declared b) = Unit {0}
ItemFits reset = Unit {0}
ItemFits key_in_header = Unit {0}
ItemFits (key_change k) = Unit {0}
ItemFits (meter_change m) = MeterFits m
ItemFits (lyric_line b t) = Bytes t
ItemFits (music_line u m l) = MeterFits m

-- the voltas of measures in order are closed: they are those that `closed` leaves where only starts were marked
pub record VoltasClosed (ms : List Measure) : Type 0 where
  pub before : List Measure
  pub opens : All (λ (m : Measure). VoltaOpen m.volta) before
  pub same : map (λ (m : Measure). m.volta) ms ≡ map (λ (m : Measure). m.volta) (closed before)

-- a finished part
pub record PartFits (p : Part) : Type 0 where
  pub measures_fit : All MeasureFits p.measures
  pub voltas_fit : VoltasClosed p.measures
  pub words_fit : All (All SyllableFits) p.words

-- WHAT FITS IN FOUR BYTES: the counts of a part's sections and the numbers of its records that have four
abbrev pub FourBytes : ℕ → Type 0
FourBytes n = n < 2 ^ 32

-- the counts of a part
pub record CountsFit (p : Part) : Type 0 where
  pub measures_count : FourBytes (length p.measures)
  pub notes_count : FourBytes (length (notes_of p))
  pub pitches_count : FourBytes (length (pitches_of p))
  pub lyrics_count : FourBytes (length (lyrics p))
  pub text_count : FourBytes (length (lyric_text p))
  -- a measure: the notes of each voice, and its passes
  pub voice_counts : All (λ (m : Measure). All (λ (v : List Note). FourBytes (length v)) m.voices) p.measures
  pub pass_bits_lem : All (λ (m : Measure). FourBytes (pass_bits m.passes)) p.measures
  -- a note: its pitches
  pub pitch_counts : All (λ (x : ℕ × Note). FourBytes (length x.1.pitches)) (notes_of p)
  -- a lyric: its note's index, which is one of the part's notes, and its text
  pub indexes : All (λ (x : ℕ × Syllable). x.0 < length (notes_of p)) (lyrics p)
  pub text_counts : All (λ (x : ℕ × Syllable). FourBytes (length x.1.text)) (lyrics p)
