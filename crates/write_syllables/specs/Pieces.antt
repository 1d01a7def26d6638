-- WHAT IS WRITTEN FOR SYLLABLES: their records, or their texts.
use Rattle.std.specs.Prelude.{ℕ, Bool, true, false, List}
use Rattle.laws.specs.Bytes.{enc_all}
use Rattle.reader.specs.Lyrics.{Syllable}
use Rattle.reader.specs.Records.{lyric_bytes}

-- the text of a syllable, or its record, which has the index of its note
abbrev pub piece : Bool → ℕ → Syllable → List ℕ
piece true i y = y.text
piece false i y = lyric_bytes i y

-- of the syllables of one note, one after the other
unfoldable pub pieces : Bool → ℕ → List Syllable → List ℕ
pieces texts i ys = enc_all (piece texts i) ys
