-- A LIST IN ITS STORE: a count, then the numbers, four bytes each.
use Rattle.std.specs.Prelude.{ℕ, ◌+◌, ◌*◌, ◌≤◌, ◌<◌, ◌^◌, ◌≡◌, List, Option, Some, None, ltb, length}
use Rattle.laws.specs.Lists.{filter}
use Rattle.laws.specs.Bytes.{le32, u32_at, splice, rows, enc_all}
use Rattle.reading_records.specs.Widths.{count_width}

-- the most numbers of a list
abbrev pub most_numbers : ℕ
most_numbers = 4294967295

-- where number i stands, from 0
abbrev pub number_at : ℕ → ℕ
number_at i = count_width + count_width * i

-- n numbers of the store l from number `from` on
unfoldable pub numbers_in : List ℕ → ℕ → ℕ → List ℕ
numbers_in l from n = rows (λ b. u32_at b 0) count_width l (number_at from) n

-- the numbers above t
unfoldable pub above : ℕ → List ℕ → List ℕ
above t ns = filter (ltb t) ns

-- A STORE with room for so many numbers
pub record Room (l : List ℕ) (room : ℕ) : Type 0 where
  pub fits : number_at room ≤ length l
  pub most : room < 2 ^ 32

-- THE NUMBERS COPIED: xs behind the c numbers of l, which is left as m, so that n are listed; or one had no room
abbrev pub Says : ℕ → ℕ → List ℕ → List ℕ → List ℕ → Option ℕ → Type 0
Says room c xs l m (Some n) = (n ≡ c + length xs) × (n ≤ room) × (m ≡ splice l (number_at c) (enc_all le32 xs))
Says room c xs l m None = room < c + length xs

pub record CopiedIs (room c : ℕ) (xs l m : List ℕ) (r : Option ℕ) : Type 0 where
  pub says : Says room c xs l m r
