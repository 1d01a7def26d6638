-- `token_lexemes::is_plain` meets its contract.
use borrow.Author.Tests.{lt-ltb, le-ltb}
use Rattle.token_lexemes.proofs.is_plain.Goals as goal

pub returns-then-b-lt39 : goal.returns-then-b-lt39
returns-then-b-lt39 c = simp (lt-ltb _ _ c.if-b-lt39.true)

pub returns-else-b-lt39 : goal.returns-else-b-lt39
returns-else-b-lt39 c = simp (le-ltb _ _ c.if-b-lt39.false)
