-- How the answer is packed into one number of 64 bits, and taken out of it again.
use Rattle.std.specs.Prelude.{ℕ, ◌+◌, ◌-◌, ◌*◌, ◌/◌, ◌%◌, ◌<◌, cond, ltb}
use Rattle.reader.specs.Answer.{Answer, read, refused}

-- bit 63, and bit 32
abbrev pub refused_bit : ℕ
refused_bit = 9223372036854775808

abbrev pub number_unit : ℕ
number_unit = 4294967296

-- the reading's length; or bit 63, the refusal's number in bits 32 to 39 and its line in bits 0 to 31
unfoldable pub packed : Answer → ℕ
packed (read n) = n
packed (refused n l) = refused_bit + n * number_unit + l

-- what a caller takes out of it
unfoldable pub unpacked : ℕ → Answer
unpacked r = cond (ltb r refused_bit) (read r) (refused ((r - refused_bit) / number_unit) ((r - refused_bit) % number_unit))

-- a length that leaves bit 63 alone
abbrev pub Short : Answer → Type 0
Short (read n) = n < refused_bit
Short (refused n l) = Unit {0}

-- the version of what the calls promise: 1,000,000 × major + 1,000 × minor + patch (include/abc.h, bindings/rust)
abbrev pub version : ℕ
version = 6000
