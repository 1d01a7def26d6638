-- THE LENGTH LAW IS SHARP: 22 bytes for each byte of the text are not enough. A note and a barline are two bytes of text and 45 of the reading.
use Prim.Native.Nat.{ℕ, ◌*◌}
use mathlib.Core.Path.{◌≡◌, refl}
use mathlib.Core.Bool.{true}
use mathlib.Core.List.{List, ◌++◌}
use lib.Dec.{ltb}
use lib.ListN.{length, replicate}
use Rattle.laws.specs.Lists.{concat}
use Rattle.standard.specs.Bytes.{ascii}
use Rattle.editions.specs.declared.Edition.{Edition}
use Rattle.editions.specs.declared.Edition.TheVariants.{First, Second}
use Rattle.reader.specs.Answer.{Verdict, refusal, reading, encode, scratch_needed, parse_abc}
use Rattle.reader.specs.All.{all}

-- a note and a barline, sixty times
abbrev text : List ℕ
text = ascii "K:\n" ++ concat (replicate 60 (ascii "A|"))

-- the length of a reading
abbrev length_of : Verdict → ℕ
length_of (refusal n l) = 0
length_of (reading ps) = length (encode ps)

-- its reading is longer than 22 times the text
pub too_few : (ed : Edition) → ltb (22 * length text) (length_of (parse_abc ed text (scratch_needed (length text)) (scratch_needed (length text))).verdict) ≡ true
unfolding all
too_few First = refl
too_few Second = refl
