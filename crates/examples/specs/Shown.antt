-- An answer as a list of numbers, and the bytes that a hexadecimal text writes.
use Rattle.std.specs.Prelude.{ℕ, ◌+◌, ◌*◌, ◌-◌, Bool, cond, List, [], ◌∷◌, ltb, length}
use Prim.Native.Char.{Char, code}
use Prim.Native.String.{String, [] as empty, ◌∷◌ as char-then}
use Rattle.editions.specs.declared.Edition.TheVariants.{First}
use Rattle.reader.specs.Part.{Part}
use Rattle.reader.specs.Answer.{Verdict, refusal, reading, Outcome, scratch_needed, parse_abc}

-- a digit 0 to 9, a to f
abbrev pub nibble : ℕ → ℕ
nibble c = cond (ltb c 58) (c - 48) (c - 87)

-- two digits a byte
abbrev pub hex : String → List ℕ
hex empty = []
hex (char-then a empty) = []
hex (char-then a (char-then b s)) = (nibble (code a) * 16 + nibble (code b)) ∷ hex s

-- a refusal: 0, its number and line; a reading: 1 and the store's bytes
abbrev pub shown : Outcome → List ℕ
shown w = elim w.verdict [ refusal n l ↦ 0 ∷ n ∷ l ∷ [] | reading ps ↦ 1 ∷ w.reading ]

-- the answer with a reading store of n bytes, and scratch just large enough
abbrev pub answered : List ℕ → ℕ → List ℕ
answered text n = shown (parse_abc First text n (scratch_needed (length text)))

-- the answer is the reading `bytes`, in a store just large enough
abbrev pub reads : List ℕ → List ℕ → List ℕ
reads text bytes = answered text (length bytes)

-- the parts that were read
abbrev pub parts_in : Verdict → List Part
parts_in (refusal n l) = []
parts_in (reading ps) = ps
