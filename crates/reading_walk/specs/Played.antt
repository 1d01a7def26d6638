-- THE CALL: "list measure numbers (a count, then the numbers, u32 each)"; "Checks: 19 no whole reading or no such part, 20 the list's store is too short or the list has over
-- 4,294,967,295 numbers; in this order."
use Rattle.std.specs.Prelude.{ℕ, ◌-◌, Bool, cond, ◌&&◌, List, ◌++◌, leb, length}
use Rattle.laws.specs.Bytes.{le32, u32_at, zeros, enc_all}
use Rattle.reader.specs.Answer.{Answer, read, refused}
use Rattle.reading_records.specs.Widths.{first_part}
use Rattle.reading_sections.specs.Sections.{part_at}
use Rattle.reading_list.specs.Numbers.{most_numbers}
use Rattle.reading_whole.specs.Whole.{is_whole}
use Rattle.reading_walk.specs.Walk.{played}
use Rattle.reading_walk.specs.Spans.{bars_of}

-- a list in bytes
unfoldable pub list_bytes : List ℕ → List ℕ
list_bytes ns = le32 (length ns) ++ enc_all le32 ns

-- the answer, and what the store holds after the call
pub record Outcome : Type 0 where
  pub answer : Answer
  pub store : List ℕ

unfoldable pub refused_with : ℕ → ℕ → Outcome
refused_with number n = record { answer = refused number 0; store = zeros n }

-- the numbers ns in a store of n bytes: 20, or the list's length, and the list and then zeros
unfoldable pub listed_in : List ℕ → ℕ → Outcome
listed_in ns n =
    cond (leb (length (list_bytes ns)) n && leb (length ns) most_numbers)
    (record { answer = read (length (list_bytes ns)); store = list_bytes ns ++ zeros (n - length (list_bytes ns)) })
    (refused_with 20 n)

-- the numbers of part q, from 1, of the reading s
unfoldable pub played_of : List ℕ → ℕ → List ℕ
played_of s q = played (bars_of s (part_at s first_part (q - 1)))

-- a whole reading that has a part q
unfoldable pub has_part : List ℕ → ℕ → Bool
has_part s q = is_whole s && leb 1 q && leb q (u32_at s 0)

-- THE ANSWER AND THE STORE, for any bytes s, any part number q and a store of n bytes
unfoldable pub played_measures : List ℕ → ℕ → ℕ → Outcome
played_measures s q n = cond (has_part s q) (listed_in (played_of s q) n) (refused_with 19 n)
