-- An answer as the definitions have it.
use Rattle.std.specs.Prelude.{ℕ, Result, Ok, Err}
use Rattle.reader.specs.Answer.{Answer, read, refused}
use Rattle.refusals.specs.declared.Refused.{Refused}
use Rattle.refusals.specs.Numbers.{number_of}

-- the length in bytes of what was written; the number of a refusal, and its line
abbrev pub answer_as : Result ℕ Refused → Answer
answer_as (Ok n) = read n
answer_as (Err e) = refused (number_of e.refusal) e.line
