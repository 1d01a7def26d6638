-- What a run of digits writes: a number, or why it is none.
use Rattle.std.specs.Prelude.{ℕ, ◌+◌, ◌-◌, ◌*◌, ◌^◌, cond, List, [], ◌∷◌, leb, drop, Result, Ok, Err}
use Rattle.laws.specs.Spans.{run, end_of}
use Rattle.standard.specs.Bytes.{is_digit, decimal}
use Rattle.text_bytes.specs.declared.Read.{Read}
use Rattle.text_numbers.specs.declared.NumberError.{NumberError}
use Rattle.text_numbers.specs.declared.NumberError.TheVariants.{Empty, TooLarge}

-- the greatest number of 64 bits
abbrev pub most : ℕ
most = 2 ^ 64 - 1

-- a number up to a bound, or one past it
abbrev pub up_to : ℕ → ℕ → Result ℕ NumberError
up_to top n = cond (leb n top) (Ok n) (Err TooLarge)

-- what digits write
unfoldable pub written : ℕ → List ℕ → Result ℕ NumberError
written top [] = Err Empty
written top (c ∷ s) = up_to top (decimal 0 (c ∷ s))

-- the number at a position, and the position after its digits
unfoldable pub number_at : ℕ → List ℕ → ℕ → Read (Result ℕ NumberError)
number_at top line at = record { value = written top (run is_digit (drop at line)); next = end_of is_digit line at }

-- one digit more
unfoldable pub with_digit : Result ℕ NumberError → ℕ → Result ℕ NumberError
with_digit (Err Empty) c = up_to most (0 * 10 + (c - 48))
with_digit (Err TooLarge) c = Err TooLarge
with_digit (Ok n) c = up_to most (n * 10 + (c - 48))

-- a lower bound
abbrev pub at_most : ℕ → Result ℕ NumberError → Result ℕ NumberError
at_most top (Err e) = Err e
at_most top (Ok n) = up_to top n
