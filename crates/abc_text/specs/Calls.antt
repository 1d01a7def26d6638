-- DEMAND 3 OF CALLS OF `parse_abc`: "The order of the voice blocks changes no byte of the reading." Its words (`Hypotheses`, `Moved`, `only_voice`) are those of crate blocks.
use Rattle.std.specs.Prelude.{ℕ, ◌-◌, ◌<◌, max, ◌≡◌, true, List, ◌++◌, length}
use Rattle.std.specs.Prelude.{Result, Ok}
use Rattle.std.proofs.Math.Option.{some}
use Rattle.refusals.specs.declared.Refused.{Refused}
use Rattle.laws.specs.Lists.{elem, index_of}
use Rattle.laws.specs.Bytes.{zeros}
use Rattle.editions.specs.declared.Edition.{Edition}
use Rattle.reader.specs.Steps.{TextLine}
use Rattle.reader.specs.Part.{Part}
use Rattle.reader.specs.Answer as answers
use Rattle.reader.specs.Answer.{encode, parse_abc, answer_of}
use Rattle.blocks.specs.Blocks.{blocks, rebuilt}
use Rattle.blocks.specs.Demand.{Hypotheses, Moved, voices, only_part, only_voice, part_in}
use Rattle.reading_answers.specs.Answers.{answer_as}

-- A CALL, as the contract of `parse_abc` has it: a text, a reading store of rl bytes and a scratch store of sl, whatever bytes they held; its answer r, and both stores after it
abbrev pub Call : Edition → List ℕ → ℕ → ℕ → Result ℕ Refused → List ℕ → List ℕ → Type 0
Call ed text rl sl r reading scratch =
    (answer_as r ≡ answer_of (parse_abc ed text rl sl).verdict) × ((reading ≡ (parse_abc ed text rl sl).reading) × (scratch ≡ (parse_abc ed text rl sl).scratch))

-- "the text, given stores of the same lengths, is accepted again with the same answer and leaves the same bytes in both"
abbrev pub In-any-order : Edition → Type 0
In-any-order ed =
    (text : List ℕ) (rl sl : ℕ) → Hypotheses ed text rl sl → (bs : List (List TextLine)) → Moved (blocks text) bs
    → (r r' : Result ℕ Refused) (reading reading' scratch scratch' : List ℕ) → Call ed text rl sl r reading scratch → Call ed (rebuilt text bs) rl sl r' reading' scratch'
    → ((n : ℕ) × (r ≡ Ok n)) × ((r' ≡ r) × ((reading' ≡ reading) × (scratch' ≡ scratch)))

-- the store holds the reading of the call, and x is part p of that reading
pub record Holds (ed : Edition) (text : List ℕ) (rl sl : ℕ) (store : List ℕ) (p : ℕ) (x : Part) : Type 0 where
  pub parts : List Part
  pub read_as_lem : (parse_abc ed text rl sl).verdict ≡ answers.reading parts
  pub holds : store ≡ encode parts ++ zeros (rl - length (encode parts))
  pub part : part_in (parse_abc ed text rl sl).verdict p ≡ some x

-- "every voice's part equals, in all five sections, the one read with all other voices' blocks removed, if that text is accepted", with stores of any length;
-- "every voice with a part in the first reading is meant": by the part's number, also where the text has no V: line
abbrev pub Each-part : Edition → Type 0
Each-part ed =
    (text : List ℕ) (rl sl : ℕ) → Hypotheses ed text rl sl → (p : ℕ) → p < max 1 (length (voices ed text)) → (rl' sl' n : ℕ)
    → (r : Result ℕ Refused) (reading reading' scratch scratch' : List ℕ) → Call ed text rl sl r reading scratch → Call ed (only_part ed text p) rl' sl' (Ok n) reading' scratch'
    → (x : Part) × (Holds ed text rl sl reading p x × Holds ed (only_part ed text p) rl' sl' reading' p x)

-- the same by the voice's name
abbrev pub Each-alone : Edition → Type 0
Each-alone ed =
    (text : List ℕ) (rl sl : ℕ) → Hypotheses ed text rl sl → (v : List ℕ) → elem v (voices ed text) ≡ true → (rl' sl' n : ℕ)
    → (r : Result ℕ Refused) (reading reading' scratch scratch' : List ℕ) → Call ed text rl sl r reading scratch → Call ed (only_voice text v) rl' sl' (Ok n) reading' scratch'
    → (x : Part) × (Holds ed text rl sl reading (index_of v (voices ed text)) x × Holds ed (only_voice text v) rl' sl' reading' (index_of v (voices ed (only_voice text v))) x)
