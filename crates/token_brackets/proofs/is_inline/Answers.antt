-- `token_brackets::is_inline` meets its contract.
use mathlib.Core.Path.{sym, ◌∙◌}
use Rattle.token_brackets.proofs.Inlines.{no_close, quote_first, colon_inside}
use Rattle.token_brackets.proofs.is_inline.Goals as goal

pub returns-then-line-close : goal.returns-then-line-close
returns-then-line-close c =
    no_close c.args.line.now c.args.from c.args.close c.requires.0 c.requires.1 c.if-line-close.true

pub returns-then-byte_at-eq34 : goal.returns-then-byte_at-eq34
returns-then-byte_at-eq34 c =
    quote_first c.args.line.now c.args.from c.args.close c.requires.0 c.requires.1 c.if-line-close.false (sym c.byte_at.ensures ∙ c.if-byte_at-eq34.true)

pub returns : goal.returns
returns c =
    colon_inside c.args.line.now c.args.from c.args.close c.requires.0 c.requires.1 c.if-line-close.false (λ k. c.if-byte_at-eq34.false (c.byte_at.ensures ∙ k)) c.find.result c.find.ensures
