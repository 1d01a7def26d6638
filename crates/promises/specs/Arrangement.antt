-- THE SAME VOICES IN ANOTHER ARRANGEMENT: line about, block about, or any other. A voice's lines may stand in one block or in many.
use Rattle.std.specs.Prelude.{ℕ, ◌≡◌, List, [], ◌∷◌, map}
use Rattle.std.proofs.Math.Option.{none, some}
use Rattle.laws.specs.Lists.{filter, concat, eq_text}
use Rattle.reader.specs.Steps.{TextLine}
use Rattle.reader.specs.Answer.{Verdict, refusal, reading}
use Rattle.reader.specs.Tally.{Counts, counts_of, tally}
use Rattle.blocks.specs.Blocks.{header, opening, blocks}
use Rattle.blocks.specs.Demand.{voice_of, part_in}

-- a block without its V: line
abbrev pub body_of : List TextLine → List TextLine
body_of [] = []
body_of (r ∷ rs) = rs

-- the lines of the voice v in its blocks, in order, without the V: lines
abbrev pub lines_of : List ℕ → List ℕ → List TextLine
lines_of text v = concat (map body_of (filter (λ b. eq_text (voice_of b) v) (blocks text)))

-- two texts that begin alike up to their first blocks, and whose voices have the same lines there
pub record Rearranged (text text' : List ℕ) : Type 0 where
  pub header_same : header text ≡ header text'
  pub opening_same : opening text ≡ opening text'
  pub lines_same : (v : List ℕ) → lines_of text v ≡ lines_of text' v

-- the tally of an answer
abbrev pub tally_of : Verdict → List Counts
tally_of (refusal n l) = []
tally_of (reading ps) = tally ps

-- a line of the tally but for its syllables: measures, notes that are no rests, rests
abbrev pub notes_only : Counts → ℕ × ℕ × ℕ
notes_only c = (c.measures, c.sounded, c.rests)

-- the counts of part p of an answer; none, if it has no such part
abbrev pub counts_at : Verdict → ℕ → Counts
counts_at w p = elim (part_in w p) [ none ↦ record { measures = 0; sounded = 0; rests = 0; syllables = 0 } | some x ↦ counts_of x ]
