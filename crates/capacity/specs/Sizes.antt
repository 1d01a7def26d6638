-- WHAT A MUSIC LINE CAN MAKE: how many of its bytes can bring a row to each table of a part. A barline begins with `|` or `:`, a note has a letter, a rest is
-- one byte, an accidental has a sign.
use Rattle.std.specs.Prelude.{ℕ, ◌+◌, Bool, ◌||◌, List, length}
use Rattle.laws.specs.Lists.{filter}
use Rattle.standard.specs.Bytes.{is}
use Rattle.standard.specs.Pitches.{is_letter}

abbrev pub is_bar : ℕ → Bool
is_bar c = is "|" c || is ":" c

abbrev pub is_rest : ℕ → Bool
is_rest c = is "z" c || is "x" c || is "Z" c || is "X" c

abbrev pub is_sign : ℕ → Bool
is_sign c = is "^" c || is "_" c || is "=" c

-- measures that can open behind the first
unfoldable pub bars : List ℕ → ℕ
bars l = length (filter is_bar l)

-- pitches
unfoldable pub letters : List ℕ → ℕ
letters l = length (filter is_letter l)

-- rests
unfoldable pub rests : List ℕ → ℕ
rests l = length (filter is_rest l)

-- accidentals in force
unfoldable pub signs : List ℕ → ℕ
signs l = length (filter is_sign l)

-- notes, chords and rests
abbrev pub tones : List ℕ → ℕ
tones l = letters l + rests l
