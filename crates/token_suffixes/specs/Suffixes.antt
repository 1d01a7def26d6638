-- A length as it is written, by position.
use Rattle.std.specs.Prelude.{ℕ, ◌+◌, ◌^◌, Bool, true, false, List, ltb, get_or, drop}
use Rattle.laws.specs.Lists.{count_while}
use Rattle.standard.specs.Bytes.{is, is_digit}
use Rattle.editions.specs.declared.Edition.{Edition}
use Rattle.editions.specs.declared.Edition.TheVariants.{First, Second}
use Rattle.reader.specs.Lengths.{number, length_of, many_slashes}
use Rattle.std.specs.Prelude.{Result, Ok, Err}
use Rattle.refusals.specs.declared.Refusal.{Refusal}
use Rattle.text_bytes.specs.declared.Read.{Read}
use Rattle.token_suffixes.specs.declared.Fraction.{Fraction}

-- a length with the position after it; and refusal 22
abbrev pub suffix_read : ℕ → ℕ → ℕ → Result (Read Fraction) Refusal
suffix_read num den next = Ok (record { value = record { num = num; den = den }; next = next })

abbrev pub suffix_refused : Result (Read Fraction) Refusal
suffix_refused = Err Refusal.ManySlashes

-- the number at a position, and the position after its digits
unfoldable pub number_or : ℕ → List ℕ → ℕ → Read ℕ
number_or other line at = record { value = number other (count_while is_digit (drop at line)) (drop at line); next = at + count_while is_digit (drop at line) }

-- behind a slash: whether another one counts
unfoldable pub is_run : Edition → List ℕ → ℕ → Bool
is_run First line at = false
is_run Second line at = is "/" (get_or line (at + 1) 0)

-- num halved by k slashes, which end before `next`: 31 at most
unfoldable pub halved_for : ℕ → ℕ → ℕ → Result (Read Fraction) Refusal
halved_for num k next = elim (ltb 31 k) [ true ↦ suffix_refused | false ↦ suffix_read num (2 ^ k) next ]

-- by the slashes at a position
abbrev pub halved_by : ℕ → List ℕ → ℕ → Result (Read Fraction) Refusal
halved_by num line at = halved_for num (count_while (is "/") (drop at line)) (at + count_while (is "/") (drop at line))

-- the length at a position, and the position after it; or 22
unfoldable pub suffix_at : Edition → List ℕ → ℕ → Result (Read Fraction) Refusal
suffix_at ed line at = let s = drop at line in elim (many_slashes ed s) [ true ↦ suffix_refused | false ↦ suffix_read (length_of ed s).num (length_of ed s).den (at + (length_of ed s).used) ]
