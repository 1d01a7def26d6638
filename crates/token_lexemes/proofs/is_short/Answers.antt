-- `token_lexemes::is_short` meets its contract.
use mathlib.Core.Path.{sym, ◌∙◌}
use Rattle.token_lexemes.proofs.is_short.Goals as goal

pub returns-then-is_within : goal.returns-then-is_within
returns-then-is_within c = rw (sym c.is_within.ensures ∙ c.if-is_within.true) c.is_plain.ensures

pub returns : goal.returns
returns c = rw (sym c.is_within.ensures ∙ c.if-is_within.false)
