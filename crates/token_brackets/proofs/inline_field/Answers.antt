-- `token_brackets::inline_field` meets its contract: a field by its token, a refusal by its number.
use mathlib.Core.Path.{sym, ap, ◌∙◌}
use Rattle.laws.specs.Bytes.{part}
use Rattle.field_values.specs.Values as fields
use Rattle.token_lexemes.specs.Lexemes.{lexeme_for}
use Rattle.token_brackets.proofs.Opened.{field_cut, refused_cut}
use Rattle.token_brackets.proofs.inline_field.Goals as goal
use Rattle.token_brackets.proofs.inline_field.Goals.{in-Ok, in-Err}

pub returns : goal.returns
unfolding part
returns c =
    field_cut c.args.at c.args.close c.requires.0 _ _
    (elim c.match-parse_inline_field.branch [
      | in-Ok w ↦ w.value-is ∙ w.field_token-value.ensures c.args.at ∙ ap (λ f. lexeme_for c.args.at (fields.token_as f)) (sym w.in-Ok.is) ∙ ap (lexeme_for c.args.at) c.parse_inline_field.ensures
      | in-Err w ↦ w.value-is ∙ refused_cut c.args.at _ ∙ ap (λ f. lexeme_for c.args.at (fields.token_as f)) (sym w.in-Err.is) ∙ ap (lexeme_for c.args.at) c.parse_inline_field.ensures
    ])
