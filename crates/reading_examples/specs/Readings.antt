-- Readings to try: of a text, of the codes of some measures, and with a byte changed.
use Rattle.std.specs.Prelude.{ℕ, ◌-◌, ◌+◌, List, [], ◌∷◌, ◌++◌, length}
use Prim.Native.String.{String}
use Rattle.std.proofs.Math.Option.{Option, none, some}
use Rattle.laws.specs.Bytes.{le32, zeros, splice, enc_all}
use Rattle.standard.specs.Bytes.{ascii}
use Rattle.editions.specs.declared.Edition.TheVariants.{First}
use Rattle.reader.specs.Answer.{refusal, reading, Outcome, scratch_needed, parse_abc}
use Rattle.reader.specs.Records.{measure_width}
use Rattle.reading_records.specs.Widths.{count_width, first_part}
use Rattle.reading_records.specs.Fields.{left_field, right_field, volta_field, passes_field}
use Rattle.reading_walk.specs.Played.{played_of}

-- WHAT `parse_abc` MAKES OF A TEXT, with a reading store of 400 bytes and scratch just large enough
abbrev pub store_of : String → Outcome
store_of text = parse_abc First (ascii text) 400 (scratch_needed (length (ascii text)))

-- what part q of a text plays, if the text is read
abbrev pub plays : ℕ → String → Option (List ℕ)
plays q text = elim (store_of text).verdict [ refusal n l ↦ none | reading ps ↦ some (played_of (store_of text).reading q) ]

-- THE CODES OF A MEASURE: its barlines, volta and passes, bit p − 1 for pass p
pub record Codes : Type 0 where
  pub left : ℕ
  pub right : ℕ
  pub volta : ℕ
  pub passes : ℕ

-- its record, without notes
abbrev pub measure : Codes → List ℕ
measure c =
    splice (splice (splice (splice (zeros measure_width) left_field (c.left ∷ [])) right_field (c.right ∷ [])) volta_field (c.volta ∷ [])) passes_field (le32 c.passes)

-- a reading of one part with these measures, and no notes
abbrev pub from_codes : List Codes → List ℕ
from_codes cs = le32 1 ++ zeros (first_part - count_width) ++ le32 (length cs) ++ enc_all measure cs ++ zeros (count_width + count_width + count_width + count_width)
