-- `tokens::token_at` meets its contract.
use mathlib.Core.Path.{sym, ap, ◌∙◌}
use lib.ListN.{drop}
use Rattle.reader.specs.Tokens.{token_as, token_of}
use Rattle.token_lexemes.specs.Lexemes.{cut_for}
use Rattle.tokens.specs.Tokens.{token_for, tokenised_for, tokenised_in}
use Rattle.tokens.proofs.Dispatch.{by_class, classed, valued_cut}
use Rattle.tokens.proofs.Numbers.{numbered}
use Rattle.tokens.proofs.token_at.Goals as goal

pub returns-in-Pitched-clause-token : goal.returns-in-Pitched-clause-token
unfolding by_class token_as
returns-in-Pitched-clause-token c =
    let a = c.args in
    let e = classed _ a.line.now a.at _ _ (c.type_inv.line a.at).fits c.class_of-class.ensures c.in-Pitched.is in
    c.tokenise.ensures ∙ ap (tokenised_in a.unit) (c.note.ensures.token ∙ ap (cut_for a.at) (sym e)) ∙ valued_cut a.at a.unit (token_of _ (drop a.at a.line.now))

pub returns-in-Pitched-clause-number : goal.returns-in-Pitched-clause-number
returns-in-Pitched-clause-number c = numbered _ _

pub returns-in-White-clause-token : goal.returns-in-White-clause-token
unfolding by_class token_as token_for
returns-in-White-clause-token c =
    let a = c.args in
    ap (tokenised_for a.at a.unit) (sym (classed _ a.line.now a.at _ _ (c.type_inv.line a.at).fits c.class_of-class.ensures c.in-White.is))

pub returns-in-White-clause-number : goal.returns-in-White-clause-number
returns-in-White-clause-number c = numbered _ _

pub returns : goal.returns
returns c =
    let a = c.args in
    record {
      token = c.tokenise-2.ensures ∙ ap (tokenised_in a.unit) c.lexeme_at.ensures ∙ valued_cut a.at a.unit (token_of _ (drop a.at a.line.now));
      number = numbered _ _;
    }
