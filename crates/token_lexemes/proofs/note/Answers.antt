-- `token_lexemes::note` meets its contract.
use mathlib.Core.Path.{sym, ◌∙◌}
use Rattle.token_lexemes.proofs.Sounding.{note_ends, note_other, note_letter}
use Rattle.token_lexemes.proofs.Numbered.{note_numbered}
use Rattle.token_lexemes.proofs.note.Goals as goal

pub returns-then-line-place : goal.returns-then-line-place
returns-then-line-place c =
    let a = c.args in
    record { token = note_ends a.edition a.line.now a.at c.accidental_before-before.result c.accidental_before-before.ensures c.if-line-place.true; number = note_numbered _ _ }

pub returns-then-is_letter : goal.returns-then-is_letter
returns-then-is_letter c =
    let a = c.args in
    record {
      token = c.note_from_letter.ensures ∙ note_letter a.edition a.line.now a.at c.accidental_before-before.result c.accidental_before-before.ensures c.if-line-place.false (sym c.is_letter.ensures ∙ c.if-is_letter.true);
      number = note_numbered _ _;
    }

pub returns : goal.returns
returns c =
    let a = c.args in
    record {
      token = note_other a.edition a.line.now a.at c.accidental_before-before.result c.accidental_before-before.ensures c.if-line-place.false (sym c.is_letter.ensures ∙ c.if-is_letter.false);
      number = note_numbered _ _;
    }
