-- WHAT THE PROGRAM `tally` PRINTS (document 01, "The tally"; docs/DECISIONS, 41).
use Rattle.std.specs.Prelude.{ℕ, zero, suc, ◌+◌, ◌/◌, ◌%◌, ◌≤◌, ◌≡◌, true, false, cond, List, [], ◌∷◌, ◌++◌, ltb, leb, length}
use Rattle.laws.specs.Bytes.{splice}
use Rattle.standard.specs.Bytes.{ascii}
use Rattle.editions.specs.declared.Edition.TheVariants.{First}
use Rattle.reader.specs.Answer.{Verdict, refusal, reading, parse_abc}
use Rattle.reader.specs.Tally.{Counts, tally}

-- a number's decimal digits, k at most, the highest first
unfoldable pub digits_of : ℕ → ℕ → List ℕ
digits_of zero n = []
digits_of (suc k) n = elim (ltb n 10) [ true ↦ (48 + n) ∷ [] | false ↦ digits_of k (n / 10) ++ ((48 + n % 10) ∷ []) ]

-- 20 are enough for 64 bits
unfoldable pub decimal : ℕ → List ℕ
decimal n = digits_of 20 n

-- a word and a number
unfoldable pub field : List ℕ → ℕ → List ℕ
field w n = w ++ decimal n

-- "the fields are the part's number, its measures, its notes that are no rests, its rests, its lyric records"
unfoldable pub line : ℕ → Counts → List ℕ
line i c =
    field (ascii "part ") i ++ field (ascii " measures ") c.measures ++ field (ascii " sounded ") c.sounded ++ field (ascii " rests ") c.rests
    ++ field (ascii " syllables ") c.syllables
    ++ ascii "\n"

-- "One line per part in order", from number i on
unfoldable pub lines : ℕ → List Counts → List ℕ
lines i [] = []
lines i (c ∷ cs) = line i c ++ lines (suc i) cs

-- of so many parts with these counts
unfoldable pub parts_text : ℕ → List Counts → List ℕ
parts_text n cs = field (ascii "parts ") n ++ ascii "\n" ++ lines 1 cs

-- "A refusal prints `refused`, number, line."
unfoldable pub refused_text : ℕ → ℕ → List ℕ
refused_text n l = field (ascii "refused ") n ++ field (ascii " ") l ++ ascii "\n"

-- the answer to a text
unfoldable pub verdict_text : Verdict → List ℕ
verdict_text (refusal n l) = refused_text n l
verdict_text (reading ps) = parts_text (length ps) (tally ps)

-- the stores that the program has: 23 bytes of reading for each byte of text, so that no reading is too long for it; and all the scratch that the longest text needs
abbrev pub most_input : ℕ
most_input = 1792

abbrev pub reading_bytes : ℕ
reading_bytes = 41216

abbrev pub scratch_bytes : ℕ
scratch_bytes = 65536

-- what is printed fits: at most 32 parts have a line each, of 143 bytes at most
abbrev pub out_bytes : ℕ
out_bytes = 8192

-- "reads up to 1,792 bytes of ABC from standard input; a longer input prints `too long`"
unfoldable pub printed : List ℕ → List ℕ
printed input = cond (leb (length input) most_input) (verdict_text (parse_abc First input reading_bytes scratch_bytes).verdict) (ascii "too long\n")

-- the stores of reading and scratch behind it: a longer input leaves them as they were
unfoldable pub reading_left : List ℕ → List ℕ → List ℕ
reading_left input d = cond (leb (length input) most_input) (parse_abc First input reading_bytes scratch_bytes).reading d

unfoldable pub scratch_left : List ℕ → List ℕ → List ℕ
scratch_left input d = cond (leb (length input) most_input) (parse_abc First input reading_bytes scratch_bytes).scratch d

-- WRITING A TEXT: bs was put into the store d from `at` on, which is left as e, changed nowhere else; r is where bs ends
pub record Adds (d : List ℕ) (at : ℕ) (bs e : List ℕ) (r : ℕ) : Type 0 where
  pub ends : r ≡ at + length bs
  pub fits : r ≤ length d
  pub store : e ≡ splice d at bs
