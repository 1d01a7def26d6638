-- `token_pitches::past` meets its contract.
use borrow.Author.Tests.{lt-ltb, le-ltb}
use Rattle.token_pitches.specs.Chords.{closed_at}
use Rattle.token_pitches.proofs.past.Goals as goal

pub returns-then-close-line : goal.returns-then-close-line
unfolding closed_at
returns-then-close-line c = rw (lt-ltb _ _ c.if-close-line.true)

pub returns : goal.returns
unfolding closed_at
returns c = rw (le-ltb _ _ c.if-close-line.false)
