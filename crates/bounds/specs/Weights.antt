-- WEIGHTS, in bytes of a store: of each measure, note, pitch, accidental in force, syllable, byte of lyric text and item; and the budget of each byte
-- of the part's lines, which covers them. The reading's sections and the tables of a scratch store are such weights; the laws hold for any that are covered.
use Rattle.std.specs.Prelude.{ℕ, ◌+◌, ◌*◌, ◌≤◌, cond, List, [], ◌∷◌, length}
use Rattle.std.proofs.Math.Option.{Option, none, some}
use Rattle.laws.specs.Lists.{sum}
use Rattle.standard.specs.Pitches.{Written, Accidental}
use Rattle.reader.specs.Pitches.{Scope}
use Rattle.reader.specs.Token.{Token, space, overlay, quoted, broken, tuplet, slur, grace_open, grace_close, decoration, barline, volta, unit, meter, key, field, chord, rest, note, nothing, skipped, refused}
use Rattle.reader.specs.Scan.{Item, voice_declared, reset, key_in_header, key_change, meter_change, lyric_line, music_line}
use Rattle.reader.specs.State.{Note, Measure, PartState, is_empty}
use Rattle.reader.specs.Lyrics.{Syllable}
use Rattle.reader.specs.Records.{measure_width, note_width, pitch_width, lyric_width}

-- the weights
pub record Weights : Type 0 where
  pub measure : ℕ
  pub note : ℕ
  pub pitch : ℕ
  pub accidental : ℕ
  pub syllable : ℕ
  pub text : ℕ
  -- the budget of each byte of a line
  pub byte : ℕ
  -- what a measure's notes keep back for the barline behind them: no measure opens behind one without notes
  pub kept : ℕ

-- the budget covers the weights: a note of one byte, a barline of one byte behind a note, a sign of one byte, a syllable of one byte
pub record Covered (p : Weights) : Type 0 where
  pub notes : p.note + p.pitch + p.kept ≤ p.byte
  pub measures : p.measure ≤ p.byte + p.kept
  pub accidentals : p.accidental ≤ p.byte
  pub syllables : p.syllable + p.text ≤ p.byte

-- THE WEIGHTS IN USE
-- the sections of a reading, by their records' widths: 23 bytes for each byte of a line
abbrev pub section_weights : Weights
section_weights =
    record { measure = measure_width; note = note_width; pitch = pitch_width; accidental = 0; syllable = lyric_width; text = 1; byte = 23; kept = 5 }

-- THE ROWS OF SCRATCH that are no records of a reading: a note, a step and octave with accidentals in force, the head of a note's syllables, the stop that it is for
-- lyric lines, a syllable, an item of the line table
abbrev pub note_row_width : ℕ
note_row_width = 16

abbrev pub scope_row_width : ℕ
scope_row_width = 16

-- the index of the accidentals in force: four bytes for each of 7 steps in 256 octaves
abbrev pub scope_index_width : ℕ
scope_index_width = 7168

abbrev pub lyric_head_width : ℕ
lyric_head_width = 4

abbrev pub lyric_stop_width : ℕ
lyric_stop_width = 3

abbrev pub lyric_row_width : ℕ
lyric_row_width = 16

abbrev pub item_row_width : ℕ
item_row_width = 16

-- what an item takes: its row in the line table, and one in the line table of its part
abbrev pub item_weight : ℕ
item_weight = item_row_width + item_row_width

-- the tables of a part in scratch, by their rows: a measure's bytes for each byte of a line
abbrev pub table_weights : Weights
table_weights =
    record { measure = measure_width; note = note_row_width + lyric_head_width + lyric_stop_width; pitch = pitch_width; accidental = scope_row_width; syllable = lyric_row_width; text = 0; byte = measure_width; kept = 0 }

-- the budget of each byte of the text for both line tables and one part's tables
abbrev pub scratch_per_byte : ℕ
scratch_per_byte = 32

-- what is left to a line's line feed
abbrev pub scratch_per_line_feed : ℕ
scratch_per_line_feed = 28

-- ONE OF EACH, to count it. Notes
abbrev pub note_weights : Weights
note_weights = record { measure = 0; note = 1; pitch = 0; accidental = 0; syllable = 0; text = 0; byte = 1; kept = 0 }

-- pitches
abbrev pub pitch_weights : Weights
pitch_weights = record { measure = 0; note = 0; pitch = 1; accidental = 0; syllable = 0; text = 0; byte = 1; kept = 0 }

-- accidentals in force
abbrev pub accidental_weights : Weights
accidental_weights = record { measure = 0; note = 0; pitch = 0; accidental = 1; syllable = 0; text = 0; byte = 1; kept = 0 }

-- a measure takes two bytes, a note and a barline
abbrev pub measure_weights : Weights
measure_weights = record { measure = 2; note = 0; pitch = 0; accidental = 0; syllable = 0; text = 0; byte = 1; kept = 1 }

-- syllables
abbrev pub syllable_weights : Weights
syllable_weights = record { measure = 0; note = 0; pitch = 0; accidental = 0; syllable = 1; text = 0; byte = 1; kept = 0 }

-- bytes of lyric text
abbrev pub text_weights : Weights
text_weights = record { measure = 0; note = 0; pitch = 0; accidental = 0; syllable = 0; text = 1; byte = 1; kept = 0 }

module _ (p : Weights) where
  -- A NOTE with its pitches
  unfoldable pub note_weight : Note → ℕ
  note_weight n = p.note + p.pitch * length n.pitches

  -- a voice
  abbrev pub voice_weight : List Note → ℕ
  voice_weight ns = sum note_weight ns

  -- A MEASURE with its notes
  unfoldable pub measure_weight : Measure → ℕ
  measure_weight m = p.measure + sum voice_weight m.voices

  -- all measures
  abbrev pub measures_weight : List Measure → ℕ
  measures_weight ms = sum measure_weight ms

  -- what the open measure's notes have kept back
  unfoldable pub kept_back : List Measure → ℕ
  kept_back [] = 0
  kept_back (m ∷ ms) = cond (is_empty m) 0 p.kept

  -- the accidentals in force
  unfoldable pub scopes_weight : List Scope → ℕ
  scopes_weight scs = sum (λ (sc : Scope). p.accidental * length sc) scs

  -- A PART while it is read
  unfoldable pub state_weight : PartState → ℕ
  state_weight s = measures_weight s.measures + kept_back s.measures + scopes_weight s.scopes

  -- A SYLLABLE with its text
  unfoldable pub syllable_weight : Syllable → ℕ
  syllable_weight y = p.syllable + p.text * length y.text

  -- all syllables, by note
  abbrev pub words_weight : List (List Syllable) → ℕ
  words_weight ws = sum (sum syllable_weight) ws

  -- AN ACCIDENTAL that is written
  unfoldable pub mark_weight : Option Accidental → ℕ
  mark_weight none = 0
  mark_weight (some a) = p.accidental

  -- a pitch as written
  unfoldable pub written_weight : Written → ℕ
  written_weight w = p.pitch + mark_weight w.sign

  -- what a token adds at most
  unfoldable pub token_weight : Token → ℕ
  token_weight space = 0
  token_weight overlay = 0
  token_weight quoted = 0
  token_weight (broken up n) = 0
  token_weight (tuplet t) = 0
  token_weight slur = 0
  token_weight grace_open = 0
  token_weight grace_close = 0
  token_weight decoration = 0
  token_weight (barline b o) = p.byte
  token_weight (volta ps) = 0
  token_weight (unit u) = 0
  token_weight (meter m) = 0
  token_weight (key k) = 0
  token_weight field = 0
  token_weight (chord ws l b) = p.note + p.kept + sum written_weight ws
  token_weight (rest k l) = p.note + p.kept
  token_weight (note w l b) = p.note + p.kept + written_weight w
  token_weight nothing = 0
  token_weight skipped = 0
  token_weight (refused n) = 0

-- the bytes of an item's line that cover music
unfoldable pub music_bytes : Item → ℕ
music_bytes (voice_declared b) = 0
music_bytes reset = 0
music_bytes key_in_header = 0
music_bytes (key_change k) = 0
music_bytes (meter_change m) = 0
music_bytes (lyric_line b t) = 0
music_bytes (music_line u m l) = length l

-- and for lyrics
unfoldable pub lyric_bytes : Item → ℕ
lyric_bytes (voice_declared b) = 0
lyric_bytes reset = 0
lyric_bytes key_in_header = 0
lyric_bytes (key_change k) = 0
lyric_bytes (meter_change m) = 0
lyric_bytes (lyric_line b t) = length t
lyric_bytes (music_line u m l) = 0

-- all bytes of an item's line
unfoldable pub item_bytes : Item → ℕ
item_bytes i = music_bytes i + lyric_bytes i
