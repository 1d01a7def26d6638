-- `token_lexemes::rest` meets its contract.
use mathlib.Core.Path.{sym, ◌∙◌}
use Rattle.token_lexemes.proofs.Sounding.{rest_many, rest_in}
use Rattle.token_lexemes.proofs.rest.Goals as goal

pub returns-in_default : goal.returns-in_default
returns-in_default c =
    let a = c.args in
    rest_many a.edition a.line.now a.at a.kind c.requires (λ x e. c.in_default.not-Ok x (c.parse_duration_suffix.ensures ∙ e))

pub returns : goal.returns
returns c =
    let a = c.args in
    rest_in a.edition a.line.now a.at a.kind c.requires _ _ _ (sym c.parse_duration_suffix.ensures ∙ c.in-Ok.is)
