-- THE ANSWER AND BOTH STORES of `parse_abc`, for every text and both store lengths. Nothing of what the stores held before shows.
use Rattle.std.specs.Prelude.{ℕ, zero, suc, ◌+◌, ◌*◌, ◌-◌, max, Bool, true, false, cond, List, [], ◌∷◌, ◌++◌, leb, length}
use Rattle.std.proofs.Math.Option.{Option, none, some}
use Rattle.laws.specs.Lists.{sum, any}
use Rattle.laws.specs.Bytes.{le32, zeros}
use Rattle.editions.specs.declared.Edition.{Edition}
use Rattle.reader.specs.Text.{is_utf8, is_blank, text_lines}
use Rattle.reader.specs.Steps.{refuse, on, items_of}
use Rattle.reader.specs.Scan.{Item, voice_declared, reset, key_in_header, key_change, meter_change, lyric_line, music_line, Env, scan, Out}
use Rattle.reader.specs.Part.{Part, build, empty_part}
use Rattle.reader.specs.Records.{sections}

-- a refusal by its number and line, or the parts that were read
pub data Verdict : Type 0 where
  refusal : ℕ → ℕ → Verdict
  reading : List Part → Verdict

-- the verdict, and what the reading store and the scratch store hold after the call
pub record Outcome : Type 0 where
  pub verdict : Verdict
  pub reading : List ℕ
  pub scratch : List ℕ

-- the most bytes of a text (refusal 2); the scratch bytes for each byte of text, and the bytes beside (refusal 15)
abbrev pub most_bytes : ℕ
most_bytes = 67108864

unfoldable pub scratch_needed : ℕ → ℕ
scratch_needed n = 32 * (n + 256)

-- "after a refusal the reading store too" is zeros
unfoldable pub refused_with : ℕ → ℕ → ℕ → ℕ → Outcome
refused_with n l rl sl = record { verdict = refusal n l; reading = zeros rl; scratch = zeros sl }

-- BEFORE THE FIRST LINE: "Order: 2, 3, blank 1, 15"
unfoldable pub early : List ℕ → ℕ → ℕ → Option Outcome
early text rl sl =
    cond (leb (length text) most_bytes)
    (cond (is_utf8 text)
    (cond (is_blank text)
    (some (refused_with 1 0 rl sl))
    (cond (leb (scratch_needed (length text)) sl) none (some (refused_with 15 0 rl sl))))
    (some (refused_with 3 0 rl sl)))
    (some (refused_with 2 0 rl sl))

-- THE PARTS
-- an item of a music line
unfoldable pub is_music : Item → Bool
is_music (voice_declared b) = false
is_music reset = false
is_music key_in_header = false
is_music (key_change k) = false
is_music (meter_change m) = false
is_music (lyric_line b t) = false
is_music (music_line u m l) = true

-- a part without a music line is empty: it has no measure, and its lyric lines fall on nothing
unfoldable pub built : Edition → Env → List Item → Part
built ed e is = cond (any is_music is) (build ed e.header_key is) empty_part

-- n parts from number p on, each from its own items
unfoldable pub parts : Edition → Env → (ℕ → List Item) → ℕ → ℕ → List Part
parts ed e f zero p = []
parts ed e f (suc n) p = built ed e (f p) ∷ parts ed e f n (suc p)

-- "a count of parts (u32), then for each part five sections"
unfoldable pub part_bytes : List Part → List ℕ
part_bytes [] = []
part_bytes (p ∷ ps) = sections p ++ part_bytes ps

unfoldable pub encode : List Part → List ℕ
encode ps = le32 (length ps) ++ part_bytes ps

unfoldable pub measure_count : Part → ℕ
measure_count p = length p.measures

-- "after a reading its remaining bytes are zeros"
unfoldable pub written : List Part → ℕ → ℕ → Outcome
written ps rl sl = record { verdict = reading ps; reading = encode ps ++ zeros (rl - length (encode ps)); scratch = zeros sl }

-- "then 1 for no measure; then 16"
unfoldable pub ended : List Part → ℕ → ℕ → Outcome
ended ps rl sl =
    cond (leb 1 (sum measure_count ps)) (cond (leb (length (encode ps)) rl) (written ps rl sl) (refused_with 16 0 rl sl)) (refused_with 1 0 rl sl)

-- one part for each voice, one at least
unfoldable pub finish : Edition → Env → (ℕ → List Item) → ℕ → ℕ → Outcome
finish ed e f rl sl = ended (parts ed e f (max 1 (length e.voices)) 0) rl sl

-- after the scan
unfoldable pub scanned : Edition → ℕ → ℕ → Out → Outcome
scanned ed rl sl (refuse n l) = refused_with n l rl sl
scanned ed rl sl (on s a) = finish ed s.env (λ p. items_of p a) rl sl

unfoldable pub unless : Edition → List ℕ → ℕ → ℕ → Option Outcome → Outcome
unless ed text rl sl (some w) = w
unless ed text rl sl none = scanned ed rl sl (scan ed (text_lines text))

-- THE CALL: a text, a reading store of rl bytes, a scratch store of sl
unfoldable pub parse_abc : Edition → List ℕ → ℕ → ℕ → Outcome
parse_abc ed text rl sl = unless ed text rl sl (early text rl sl)

-- WHAT THE CALLER IS TOLD: the reading's length in bytes, or the refusal's number and line
pub data Answer : Type 0 where
  read : ℕ → Answer
  refused : ℕ → ℕ → Answer

unfoldable pub answer_of : Verdict → Answer
answer_of (refusal n l) = refused n l
answer_of (reading ps) = read (length (encode ps))
