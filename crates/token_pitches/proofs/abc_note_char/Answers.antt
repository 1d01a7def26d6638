-- `token_pitches::abc_note_char` meets its contract.
use borrow.Author.Tests.{lt-ltb, le-ltb}
use Rattle.standard.specs.Pitches.{step_of, letter_octave}
use Rattle.token_pitches.proofs.abc_note_char.Goals as goal

pub returns-then-c-lt97 : goal.returns-then-c-lt97
unfolding step_of letter_octave
returns-then-c-lt97 c = rw (lt-ltb _ _ c.if-c-lt97.true)

pub returns : goal.returns
unfolding step_of letter_octave
returns c = rw (le-ltb _ _ c.if-c-lt97.false)
