-- `tokens::letter_effect` meets its contract.
use Prim.Native.Nat.{◌+◌}
use mathlib.Core.Path.{◌≡◌, sym, ap, ◌∙◌, refl}
use mathlib.Core.Bool.{true}
use mathlib.Core.Option.{none}
use lib.ListN.{get_or, drop}
use Rattle.reader.specs.Sounds.{note_as}
use Rattle.reader.specs.Tokens.{effect_of}
use Rattle.token_pitches.specs.Pitches.{note_char}
use Rattle.token_pitches.specs.declared.Sign.TheVariants as sign
use Rattle.token_lexemes.specs.Lexemes.{is_plain, is_short}
use Rattle.token_lexemes.proofs.Sounding.{letter_out, letter_plain, letter_short, letter_many, letter_in}
use Rattle.tokens.specs.Tokens.{effect_for, effect_in, effected_for, effected_in}
use Rattle.tokens.proofs.Dispatch.{effected}
use Rattle.tokens.proofs.letter_effect.Goals as goal

pub returns-then-is_plain : goal.returns-then-is_plain
unfolding effect_in
returns-then-is_plain c =
    let line = c.args.line.now in
    let at = c.args.at in
    let e : is_plain (get_or line (at + 1) 0) ≡ true = ap is_plain (sym c.byte_at-behind.ensures) ∙ sym c.is_plain.ensures ∙ c.if-is_plain.true in
    ap effected_in (letter_plain c.args.edition line at c.requires sign.Nothing (note_char (get_or line at 0)) refl e) ∙ effected at (note_as c.args.edition (record { sign = none; used = 0 }) (get_or line at 0) (drop (at + 1) line))

pub returns-then-is_short : goal.returns-then-is_short
unfolding effect_of effect_for
returns-then-is_short c =
    let line = c.args.line.now in
    let at = c.args.at in
    let e : is_short (get_or line (at + 1) 0) (get_or line (at + 2) 0) ≡ true = (λ i. is_short (sym c.byte_at-behind.ensures i) (sym c.byte_at.ensures i)) ∙ sym c.is_short.ensures ∙ c.if-is_short.true in
    ap (effected_for at) (sym (letter_short c.args.edition line at c.requires sign.Nothing (note_char (get_or line at 0)) refl e (record { sign = none; used = 0 })))

pub returns-in_default : goal.returns-in_default
unfolding effect_in
returns-in_default c =
    let line = c.args.line.now in
    let at = c.args.at in
    ap effected_in (letter_out c.args.edition line at c.requires sign.Nothing c.abc_note_char-letter.result c.abc_note_char-letter.ensures (λ x e. c.in_default.not-Ok x (c.octave_marks.ensures ∙ e)))
    ∙ effected at (note_as c.args.edition (record { sign = none; used = 0 }) (get_or line at 0) (drop (at + 1) line))

pub returns-in_default-parse_duration_suffix : goal.returns-in_default-parse_duration_suffix
unfolding effect_in
returns-in_default-parse_duration_suffix c =
    let line = c.args.line.now in
    let at = c.args.at in
    ap effected_in (letter_many c.args.edition line at c.requires sign.Nothing c.abc_note_char-letter.result c.abc_note_char-letter.ensures c.in-Ok.octave.value c.in-Ok.octave.next (sym c.octave_marks.ensures ∙ c.in-Ok.is)
    (λ x e. c.in_default-parse_duration_suffix.not-Ok x (c.parse_duration_suffix.ensures ∙ e)))
    ∙ effected at (note_as c.args.edition (record { sign = none; used = 0 }) (get_or line at 0) (drop (at + 1) line))

pub returns : goal.returns
unfolding effect_in
returns c =
    let line = c.args.line.now in
    let at = c.args.at in
    ap effected_in (letter_in c.args.edition line at c.requires sign.Nothing c.abc_note_char-letter.result c.abc_note_char-letter.ensures c.in-Ok.octave.value c.in-Ok.octave.next (sym c.octave_marks.ensures ∙ c.in-Ok.is)
    _ _ _ (sym c.parse_duration_suffix.ensures ∙ c.in-Ok-parse_duration_suffix.is) c.apply_abc_note_annotations-annotations.result c.apply_abc_note_annotations-annotations.ensures)
    ∙ effected at (note_as c.args.edition (record { sign = none; used = 0 }) (get_or line at 0) (drop (at + 1) line))
