-- `token_lexemes::note_from_letter` meets its contract.
use Prim.Native.Nat.{◌+◌}
use mathlib.Core.Path.{◌≡◌, sym, ap, ◌∙◌}
use mathlib.Core.Bool.{true}
use lib.ListN.{get_or}
use Rattle.token_lexemes.specs.Lexemes.{is_plain}
use Rattle.token_lexemes.proofs.Sounding.{letter_out, letter_plain, letter_many, letter_in}
use Rattle.token_lexemes.proofs.note_from_letter.Goals as goal

pub returns-then-is_plain : goal.returns-then-is_plain
returns-then-is_plain c =
    let e : is_plain (get_or c.args.line.now (c.args.at + 1) 0) ≡ true = ap is_plain (sym c.byte_at.ensures) ∙ sym c.is_plain.ensures ∙ c.if-is_plain.true in
    letter_plain c.args.edition c.args.line.now c.args.at c.requires c.args.sign c.abc_note_char-letter.result c.abc_note_char-letter.ensures e

pub returns-in_default : goal.returns-in_default
returns-in_default c =
    letter_out c.args.edition c.args.line.now c.args.at c.requires c.args.sign c.abc_note_char-letter.result c.abc_note_char-letter.ensures (λ x e. c.in_default.not-Ok x (c.octave_marks.ensures ∙ e))

-- the octave marks, behind which the length begins
pub returns-in_default-parse_duration_suffix : goal.returns-in_default-parse_duration_suffix
returns-in_default-parse_duration_suffix c =
    letter_many c.args.edition c.args.line.now c.args.at c.requires c.args.sign c.abc_note_char-letter.result c.abc_note_char-letter.ensures c.in-Ok.octave.value c.in-Ok.octave.next (sym c.octave_marks.ensures ∙ c.in-Ok.is)
    (λ x e. c.in_default-parse_duration_suffix.not-Ok x (c.parse_duration_suffix.ensures ∙ e))

pub returns : goal.returns
returns c =
    letter_in c.args.edition c.args.line.now c.args.at c.requires c.args.sign c.abc_note_char-letter.result c.abc_note_char-letter.ensures c.in-Ok.octave.value c.in-Ok.octave.next (sym c.octave_marks.ensures ∙ c.in-Ok.is)
    _ _ _ (sym c.parse_duration_suffix.ensures ∙ c.in-Ok-parse_duration_suffix.is) c.apply_abc_note_annotations-behind.result c.apply_abc_note_annotations-behind.ensures
