-- WIDTHS AND PLACES IN A READING; those of the records are reader's (Records).
use Rattle.std.specs.Prelude.{ℕ}

-- a count, of a section's records or of the parts
abbrev pub count_width : ℕ
count_width = 4

-- where the first part begins: after the count of parts
abbrev pub first_part : ℕ
first_part = count_width
