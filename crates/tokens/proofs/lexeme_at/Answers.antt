-- `tokens::lexeme_at` meets its contract.
use mathlib.Core.Path.{sym, ap, ◌∙◌}
use Rattle.standard.specs.Notes as Notes
use Rattle.reader.specs.Tokens.{token_as}
use Rattle.token_lexemes.specs.Lexemes.{lexeme_for, cut_for}
use Rattle.tokens.proofs.Dispatch.{by_class, classed, rest_cut}
use Rattle.tokens.proofs.lexeme_at.Goals as goal

pub returns-in-Skip : goal.returns-in-Skip
unfolding by_class token_as lexeme_for
returns-in-Skip c = ap (cut_for c.args.at) (sym (classed _ c.args.line.now c.args.at _ _ (c.type_inv.line c.args.at).fits c.requires.1 c.in-Skip.is))

pub returns-in-White : goal.returns-in-White
unfolding by_class token_as lexeme_for
returns-in-White c = ap (cut_for c.args.at) (sym (classed _ c.args.line.now c.args.at _ _ (c.type_inv.line c.args.at).fits c.requires.1 c.in-White.is))

pub returns-in-Ampersand : goal.returns-in-Ampersand
unfolding by_class token_as lexeme_for
returns-in-Ampersand c = ap (cut_for c.args.at) (sym (classed _ c.args.line.now c.args.at _ _ (c.type_inv.line c.args.at).fits c.requires.1 c.in-Ampersand.is))

pub returns-in-Quote : goal.returns-in-Quote
unfolding by_class token_as lexeme_for
returns-in-Quote c = c.quoted_text.ensures ∙ ap (cut_for c.args.at) (sym (classed _ c.args.line.now c.args.at _ _ (c.type_inv.line c.args.at).fits c.requires.1 c.in-Quote.is))

pub returns-in-More : goal.returns-in-More
unfolding by_class token_as lexeme_for
returns-in-More c = c.broken.ensures.token ∙ ap (cut_for c.args.at) (sym (classed _ c.args.line.now c.args.at _ _ (c.type_inv.line c.args.at).fits c.requires.1 c.in-More.is))

pub returns-in-Less : goal.returns-in-Less
unfolding by_class token_as lexeme_for
returns-in-Less c = c.broken-in-Less.ensures.token ∙ ap (cut_for c.args.at) (sym (classed _ c.args.line.now c.args.at _ _ (c.type_inv.line c.args.at).fits c.requires.1 c.in-Less.is))

pub returns-in-Paren : goal.returns-in-Paren
unfolding by_class token_as lexeme_for
returns-in-Paren c = c.tuplet_or_slur.ensures ∙ ap (cut_for c.args.at) (sym (classed _ c.args.line.now c.args.at _ _ (c.type_inv.line c.args.at).fits c.requires.1 c.in-Paren.is))

pub returns-in-BraceOpen : goal.returns-in-BraceOpen
unfolding by_class token_as lexeme_for
returns-in-BraceOpen c = ap (cut_for c.args.at) (sym (classed _ c.args.line.now c.args.at _ _ (c.type_inv.line c.args.at).fits c.requires.1 c.in-BraceOpen.is))

pub returns-in-BraceClose : goal.returns-in-BraceClose
unfolding by_class token_as lexeme_for
returns-in-BraceClose c = ap (cut_for c.args.at) (sym (classed _ c.args.line.now c.args.at _ _ (c.type_inv.line c.args.at).fits c.requires.1 c.in-BraceClose.is))

pub returns-in-Bang : goal.returns-in-Bang
unfolding by_class token_as lexeme_for
returns-in-Bang c = c.decoration.ensures ∙ ap (cut_for c.args.at) (sym (classed _ c.args.line.now c.args.at _ _ (c.type_inv.line c.args.at).fits c.requires.1 c.in-Bang.is))

pub returns-in-Plus : goal.returns-in-Plus
unfolding by_class token_as lexeme_for
returns-in-Plus c = c.decoration-in-Plus.ensures ∙ ap (cut_for c.args.at) (sym (classed _ c.args.line.now c.args.at _ _ (c.type_inv.line c.args.at).fits c.requires.1 c.in-Plus.is))

pub returns-in-Bars : goal.returns-in-Bars
unfolding by_class token_as lexeme_for
returns-in-Bars c = c.bar_line.ensures ∙ ap (cut_for c.args.at) (sym (classed _ c.args.line.now c.args.at _ _ (c.type_inv.line c.args.at).fits c.requires.1 c.in-Bars.is))

pub returns-in-Bracket : goal.returns-in-Bracket
unfolding by_class token_as lexeme_for
returns-in-Bracket c = c.bracket.ensures.token ∙ ap (cut_for c.args.at) (sym (classed _ c.args.line.now c.args.at _ _ (c.type_inv.line c.args.at).fits c.requires.1 c.in-Bracket.is))

pub returns-in-Rest : goal.returns-in-Rest
unfolding by_class token_as lexeme_for
returns-in-Rest c = rw c.from.ensures at c.rest.ensures ∙ rest_cut _ c.args.line.now c.args.at Notes.rest ∙ ap (cut_for c.args.at) (sym (classed _ c.args.line.now c.args.at _ _ (c.type_inv.line c.args.at).fits c.requires.1 c.in-Rest.is))

pub returns-in-InvisibleRest : goal.returns-in-InvisibleRest
unfolding by_class token_as lexeme_for
returns-in-InvisibleRest c = rw c.from-in-InvisibleRest.ensures at c.rest-in-InvisibleRest.ensures ∙ rest_cut _ c.args.line.now c.args.at Notes.invisible_rest ∙ ap (cut_for c.args.at) (sym (classed _ c.args.line.now c.args.at _ _ (c.type_inv.line c.args.at).fits c.requires.1 c.in-InvisibleRest.is))

pub returns-in-BarRest : goal.returns-in-BarRest
unfolding by_class token_as lexeme_for
returns-in-BarRest c = rw c.from-in-BarRest.ensures at c.rest-in-BarRest.ensures ∙ rest_cut _ c.args.line.now c.args.at Notes.bar_rest ∙ ap (cut_for c.args.at) (sym (classed _ c.args.line.now c.args.at _ _ (c.type_inv.line c.args.at).fits c.requires.1 c.in-BarRest.is))

pub returns-in-InvisibleBarRest : goal.returns-in-InvisibleBarRest
unfolding by_class token_as lexeme_for
returns-in-InvisibleBarRest c = rw c.from-in-InvisibleBarRest.ensures at c.rest-in-InvisibleBarRest.ensures ∙ rest_cut _ c.args.line.now c.args.at Notes.invisible_bar_rest ∙ ap (cut_for c.args.at) (sym (classed _ c.args.line.now c.args.at _ _ (c.type_inv.line c.args.at).fits c.requires.1 c.in-InvisibleBarRest.is))
