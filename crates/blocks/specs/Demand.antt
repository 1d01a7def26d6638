-- DEMAND 3, of `parse_abc`, in its own words and document 01's ("Blocks that change places"): "The order of the voice blocks changes no byte of the reading."
-- Proved in proofs/Demand (`demand_3`). That the words below say what they should: proofs/Words, Again, Sets, Parts; that they can be met: proofs/Example; that none
-- can be left out: proofs/Needed.
use Rattle.std.specs.Prelude.{ℕ, ◌≡◌, Bool, true, false, cond, ◌&&◌, ◌||◌, List, [], ◌∷◌, ◌++◌, eqb, drop}
use Rattle.std.proofs.Math.Option.{Option, none}
use Rattle.std.proofs.Math.ListN.{get_elem?}
use Rattle.laws.specs.Lists.{All, filter, concat, eq_text, elem, index_of}
use Rattle.standard.specs.Fields.{Meter}
use Rattle.editions.specs.declared.Edition.{Edition}
use Rattle.reader.specs.Text.{text_lines, clean}
use Rattle.reader.specs.Fields as fields
use Rattle.reader.specs.Lines.{is_v, is_lyric, kind_of}
use Rattle.reader.specs.Steps.{TextLine, refuse, on}
use Rattle.reader.specs.Scan.{ScanState, begin, scan, Out}
use Rattle.reader.specs.Part.{Part}
use Rattle.reader.specs.Answer.{Verdict, refusal, reading, Outcome, parse_abc}
use Rattle.blocks.specs.Blocks.{ends_lf, header, opening, blocks, rebuilt}
use Rattle.blocks.specs.Kinds.{is_music_line, unit_after, meter_after}

-- "Accepted means answered with a reading"
abbrev pub IsReading : Verdict → Type 0
IsReading (refusal n l) = ⊥
IsReading (reading ps) = Unit {0}

abbrev pub Accepted : Outcome → Type 0
Accepted w = IsReading w.verdict

-- "A voice is known by the identifier that 000 reads from a V: line, which names it"
abbrev pub identifier : TextLine → List ℕ
identifier r = fields.identifier (drop 2 (clean r))

-- "A block and its lines belong to the voice its V: line names": its first line's
abbrev pub voice_of : List TextLine → List ℕ
voice_of [] = []
voice_of (r ∷ rs) = identifier r

-- "whatever order the blocks are moved into, each voice's own kept in order": for every identifier, the blocks that name it are the same list. It follows
-- that the new blocks are the old ones in another order (`moved_is_perm`), and this is just what exchanges of neighbours of different voices lead to
-- (`moved_swaps`, `swaps_moved`)
abbrev pub Moved : List (List TextLine) → List (List TextLine) → Type 0
Moved old new = (v : List ℕ) → filter (λ b. eq_text (voice_of b) v) new ≡ filter (λ b. eq_text (voice_of b) v) old

-- one of the lines is a V: line that names v
abbrev pub named : List ℕ → List TextLine → Bool
named v [] = false
named v (r ∷ rs) = (is_v r && eq_text (identifier r) v) || named v rs

-- "A field, on its own line or inline, sets L (or M ..) unless 000 leaves that one as it found it, whatever it was": the line sets neither. So a field
-- that writes the present value sets it, and `L:1` or `[L:1/x]` does not (proofs/Sets); the same as: no field of the line sets one (`sets_neither_field`, `field_sets_neither`)
abbrev pub SetsNeither : Edition → TextLine → Type 0
SetsNeither ed r = ((u : ℕ) → unit_after (kind_of ed r) u ≡ u) × ((m : Meter) → meter_after (kind_of ed r) m ≡ m)

-- the state where the first block begins
abbrev pub state_of : Out → ScanState
state_of (refuse n l) = begin
state_of (on s a) = s

abbrev pub state_at_blocks : Edition → List ℕ → ScanState
state_at_blocks ed text = state_of (scan ed (header text ++ opening text))

-- the blocks of part p
abbrev pub blocks_at : Edition → List ℕ → ℕ → List (List TextLine)
blocks_at ed text p = filter (λ b. eqb (index_of (voice_of b) (state_at_blocks ed text).env.voices) p) (blocks text)

-- the identifiers of a text's voices, in the order of their parts
abbrev pub voices : Edition → List ℕ → List (List ℕ)
voices ed text = (state_of (scan ed (text_lines text))).env.voices

-- the lines of part p after the first K: line: "lines between the first K: line and the first block [belong] to the voice then current", and its blocks'
abbrev pub lines_at : Edition → List ℕ → ℕ → List TextLine
lines_at ed text p = cond (eqb (state_at_blocks ed text).part p) (opening text) [] ++ concat (blocks_at ed text p)

-- "a music line is one that 000 gives to `parse_body_line`", after the first K: line
abbrev pub music : Edition → TextLine → Bool
music ed r = is_music_line (kind_of ed r)

-- "no lyric line .. comes before its voice's first music line": if r is music and no line before it is, no line before it is a lyric line. Literally:
-- of a voice without a music line nothing is asked, whatever lyric lines it has
abbrev pub LyricsBehind : Edition → List TextLine → Type 0
LyricsBehind ed rs =
    (xs ys : List TextLine) (r : TextLine) → rs ≡ xs ++ (r ∷ ys) → music ed r ≡ true → All (λ x. music ed x ≡ false) xs → All (λ x. is_lyric x ≡ false) xs

-- "with all other voices' blocks removed": all but part p's
abbrev pub only_part : Edition → List ℕ → ℕ → List ℕ
only_part ed text p = rebuilt text (blocks_at ed text p)

-- "A voice's part is its five counts and sections, whatever number the part bears": `sections` of Records is a function of it
abbrev pub part_in : Verdict → ℕ → Option Part
part_in (refusal n l) p = none
part_in (reading ps) p = get_elem? ps p

-- WHAT IS SUPPOSED of a text, a reading store of rl bytes and a scratch store of sl. Not supposed, though the words have it: that no block sets "other than by
-- its V: line, the voice, inline included". In an accepted text no other line does (`only_V` in proofs/Scan), so it need not be asked; the theorem is stronger by that.
-- The frame's claim covers blocks that each begin with their own L and M too (`Brings` in specs/Frame, `steady_brings` in proofs/Frame). Every block must bring
-- both: blocks that neither set nor bring hear what the block before them set
pub record Hypotheses (ed : Edition) (text : List ℕ) (rl sl : ℕ) : Type 0 where
  -- "the text is accepted"
  pub accepted : Accepted (parse_abc ed text rl sl)
  -- "and ends in a line feed"
  pub ended : ends_lf text ≡ true
  -- "every voice with a block is named before that K: line"
  pub known : All (λ b. named (voice_of b) (header text) ≡ true) (blocks text)
  -- "no block sets L or M .., inline included"
  pub sets_neither : All (All (SetsNeither ed)) (blocks text)
  -- "no lyric line after that K: line comes before its voice's first music line there"
  pub sung : (p : ℕ) → LyricsBehind ed (lines_at ed text p)

-- WHAT FOLLOWS. An `Outcome` holds the verdict and both stores after the call, and only the stores' lengths go in: "whatever bytes they held"
pub record Conclusion (ed : Edition) (text : List ℕ) (rl sl : ℕ) : Type 0 where
  -- "the text, given stores of the same lengths, is accepted again [`again` in proofs/Demand] with the same answer and leaves the same bytes in both"
  pub moved : (bs : List (List TextLine)) → Moved (blocks text) bs → parse_abc ed (rebuilt text bs) rl sl ≡ parse_abc ed text rl sl
  -- "every voice's part equals, in all five sections, the one read with all other voices' blocks removed, if that text is accepted", which "may have stores of
  -- any length". Stronger than the words: the parts themselves are equal, and p is any number (a voice without a block, the unnamed one)
  pub apart : (p rl' sl' : ℕ) → Accepted (parse_abc ed (only_part ed text p) rl' sl')
      → part_in (parse_abc ed text rl sl).verdict p ≡ part_in (parse_abc ed (only_part ed text p) rl' sl').verdict p
  -- so that p is the same voice in both: every voice has the number it had, and the blocks of a voice's part are those that name it
  pub numbers : (p : ℕ) → voices ed (only_part ed text p) ≡ voices ed text
  pub names : (v : List ℕ) → elem v (voices ed text) ≡ true → blocks_at ed text (index_of v (voices ed text)) ≡ filter (λ b. eq_text (voice_of b) v) (blocks text)

-- THE DEMAND: "a single claim, about every such text and every such order of its blocks"
abbrev pub Demand-3 : Edition → Type 0
Demand-3 ed = (text : List ℕ) (rl sl : ℕ) → Hypotheses ed text rl sl → Conclusion ed text rl sl

-- ITS SECOND HALF BY NAME: the text with the blocks of all voices but v removed, and the part of the voice v
abbrev pub only_voice : List ℕ → List ℕ → List ℕ
only_voice text v = rebuilt text (filter (λ b. eq_text (voice_of b) v) (blocks text))

abbrev pub part_of : Edition → List ℕ → ℕ → ℕ → List ℕ → Option Part
part_of ed text rl sl v = part_in (parse_abc ed text rl sl).verdict (index_of v (voices ed text))

abbrev pub By-name : Edition → Type 0
By-name ed =
    (text : List ℕ) (rl sl : ℕ) → Hypotheses ed text rl sl → (v : List ℕ) → elem v (voices ed text) ≡ true → (rl' sl' : ℕ)
    → Accepted (parse_abc ed (only_voice text v) rl' sl') → part_of ed text rl sl v ≡ part_of ed (only_voice text v) rl' sl' v
