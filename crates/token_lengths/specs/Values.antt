-- Lengths as the code has them, and what they mean.
use Rattle.std.specs.Prelude.{ℕ, Bool, cond}
use Rattle.standard.specs.Lengths.{Value, dotted, halved}
use Rattle.token_lengths.specs.declared.Length.{Length}
use Rattle.token_lengths.specs.declared.Length.TheVariants.{Written, WholeBar}

-- a value with its dots
abbrev pub written : ℕ → ℕ → Value
written v d = record { value = v; dots = d }

-- a length's value and dots: "10 whole bar for Z and X" (document 01, Note)
abbrev pub as_value : Length → Value
as_value (Written v d) = written v d
as_value (WholeBar d) = written 10 d

-- a written value as a length
abbrev pub length_as : Value → Length
length_as w = Written w.value w.dots

-- what `broken_note` does to a note's value and dots (`broken_note_lem`)
unfoldable pub broken_length : Bool → ℕ → Length → Length
broken_length up n (Written v d) = length_as (cond up (dotted n (written v d)) (halved n (written v d)))
broken_length up n (WholeBar d) = WholeBar (cond up (dotted n (written 10 d)).dots d)
