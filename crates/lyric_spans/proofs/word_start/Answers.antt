-- `lyric_spans::word_start` meets its contract.
use borrow.Author.Rules.{rules}
use mathlib.Core.Path.{sym, ◌∙◌}
use native.Mathlib.Omega.{arith}
use Rattle.lyric_spans.proofs.Whites.{space_past, plain_here, start_here}
use Rattle.lyric_spans.proofs.word_start.Goals as goal

-- a byte of a word
pub returns-then-not-is_space : goal.returns-then-not-is_space
returns-then-not-is_space c =
    start_here _ _ _ _ (search rules) (omega arith) c.loop-i.invariant (λ h. plain_here _ _ _ h (search rules) (search rules) (sym c.is_space.ensures ∙ c.if-not-is_space.true))

-- a space
pub loop-i-preserved : goal.loop-i-preserved
loop-i-preserved c =
    c.loop-i.invariant ∙ space_past _ _ _ (search rules) (search rules) (sym c.is_space.ensures ∙ c.if-not-is_space.false)
