-- WHAT A TOKEN CAN MAKE: how many rows it brings to each table of a part at most, and that the bytes it takes can make as many.
use Rattle.std.specs.Prelude.{ℕ, ◌+◌, ◌≤◌, List, [], ◌∷◌, length}
use Rattle.std.proofs.Math.Option.{Option, none, some}
use Rattle.standard.specs.Pitches.{Accidental, Written}
use Rattle.reader.specs.Token.{Token, space, overlay, quoted, broken, tuplet, slur, grace_open, grace_close, decoration, barline, volta, unit, meter, key, field, chord, rest, note, nothing, skipped, refused}
use Rattle.capacity.specs.Sizes.{bars, letters, tones, signs}

-- one for an accidental that is written
abbrev pub sign_count : Option Accidental → ℕ
sign_count none = 0
sign_count (some a) = 1

-- how many pitches have one
abbrev pub signs_in : List Written → ℕ
signs_in [] = 0
signs_in (w ∷ ws) = sign_count w.sign + signs_in ws

-- rows in each table: measures, notes, pitches, accidentals in force
pub record Rows : Type 0 where
  pub heads : ℕ
  pub notes : ℕ
  pub pitches : ℕ
  pub scopes : ℕ

abbrev pub none_made_lem : Rows
none_made_lem = record { heads = 0; notes = 0; pitches = 0; scopes = 0 }

-- what a token brings at most
abbrev pub makes : Token → Rows
makes space = none_made_lem
makes overlay = none_made_lem
makes quoted = none_made_lem
makes (broken up n) = none_made_lem
makes (tuplet t) = none_made_lem
makes slur = none_made_lem
makes grace_open = none_made_lem
makes grace_close = none_made_lem
makes decoration = none_made_lem
makes (barline b o) = record { heads = 1; notes = 0; pitches = 0; scopes = 0 }
makes (volta ps) = none_made_lem
makes (unit u) = none_made_lem
makes (meter m) = none_made_lem
makes (key k) = none_made_lem
makes field = none_made_lem
makes (chord ws l b) = record { heads = 0; notes = 1; pitches = length ws; scopes = signs_in ws }
makes (rest k l) = record { heads = 0; notes = 1; pitches = 0; scopes = 0 }
makes (note w l b) = record { heads = 0; notes = 1; pitches = 1; scopes = sign_count w.sign }
makes nothing = none_made_lem
makes skipped = none_made_lem
makes (refused n) = none_made_lem

-- THE BYTES OF A TOKEN can make what it makes
pub record Covers (tok : Token) (bytes : List ℕ) : Type 0 where
  pub bars_cover : (makes tok).heads ≤ bars bytes
  pub tones_cover : (makes tok).notes ≤ tones bytes
  pub letters_cover : (makes tok).pitches ≤ letters bytes
  pub signs_cover : (makes tok).scopes ≤ signs bytes

-- the same for a loop: what the bytes from here on can make is enough for the token and what stands behind it
pub record CoversBoth (tok : Token) (here behind : List ℕ) : Type 0 where
  pub bars_left : (makes tok).heads + bars behind ≤ bars here
  pub tones_left : (makes tok).notes + tones behind ≤ tones here
  pub letters_left : (makes tok).pitches + letters behind ≤ letters here
  pub signs_left : (makes tok).scopes + signs behind ≤ signs here
