-- `token_lexemes::tuplet_or_slur` meets its contract.
use mathlib.Core.Path.{sym, ◌∙◌}
use Rattle.token_lexemes.proofs.Ratio.{slur_instead, tuplet_is_read}
use Rattle.token_lexemes.proofs.tuplet_or_slur.Goals as goal

pub returns-in_default : goal.returns-in_default
returns-in_default c =
    let a = c.args in
    slur_instead _ a.line.now a.at (sym c.parse_abc_tuplet.ensures ∙ c.in_default.is)

pub returns : goal.returns
returns c =
    let a = c.args in
    tuplet_is_read _ a.line.now a.at _ _ _ _ (sym c.parse_abc_tuplet.ensures ∙ c.in-Some.is)
