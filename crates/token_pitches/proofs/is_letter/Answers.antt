-- `token_pitches::is_letter` meets its contract, by the test at every byte.
use native.Mathlib.Omega.{arith}
use borrow.Author.Tests.{le-leb, lt-leb}
use Rattle.token_pitches.proofs.Letters.{letter_small}
use Rattle.token_pitches.proofs.is_letter.Goals as goal

pub returns-then-small-ge97 : goal.returns-then-small-ge97
returns-then-small-ge97 c = rw (le-leb _ _ c.if-small-ge97.true) at (letter_small c.args.c (omega arith))

pub returns-else-small-ge97 : goal.returns-else-small-ge97
returns-else-small-ge97 c = let low = lt-leb _ _ c.if-small-ge97.false in rw low (rw low at (letter_small c.args.c (omega arith)))
