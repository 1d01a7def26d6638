-- `token_lexemes::bar_line` meets its contract.
use mathlib.Core.Path.{sym, ◌∙◌}
use Rattle.token_lexemes.proofs.Bar.{no_bar_lem, bar_is_read}
use Rattle.token_lexemes.proofs.bar_line.Goals as goal

pub returns-in_default : goal.returns-in_default
returns-in_default c =
    let a = c.args in
    no_bar_lem a.line.now a.at (sym c.parse_barline.ensures ∙ c.in_default.is)

pub returns : goal.returns
returns c =
    let a = c.args in
    rw c.byte_at-opens.ensures (bar_is_read a.line.now a.at _ _ _ (sym c.parse_barline.ensures ∙ c.in-Some.is))
