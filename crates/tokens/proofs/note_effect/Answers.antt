-- `tokens::note_effect` meets its contract.
use Prim.Native.Nat.{◌+◌}
use mathlib.Core.Path.{sym, ap, ◌∙◌}
use mathlib.Core.Option.{none}
use lib.ListN.{get_or, drop}
use Rattle.reader.specs.Sounds.{note_as, note_of}
use Rattle.token_pitches.specs.Pitches.{sign_of}
use Rattle.token_lexemes.proofs.Sounding.{note_ends, note_other, note_letter}
use Rattle.tokens.specs.Tokens.{effect_in, effected_in}
use Rattle.tokens.proofs.Dispatch.{effected, marked}
use Rattle.tokens.proofs.note_effect.Goals as goal

pub returns-then-line-place : goal.returns-then-line-place
unfolding effect_in
returns-then-line-place c =
    let a = c.args in
    ap effected_in (note_ends a.edition a.line.now a.at c.accidental_before-before.result c.accidental_before-before.ensures c.if-line-place.true) ∙ effected a.at (note_of a.edition (drop a.at a.line.now))

pub returns-then-is_letter : goal.returns-then-is_letter
returns-then-is_letter c =
    let a = c.args in
    let before = c.accidental_before-before.result in
    let place = before.next in
    let line = a.line.now in
    c.letter_effect.ensures
    ∙ marked a.edition place none (sign_of before.value) (get_or line place 0) (drop (place + 1) line)
    ∙ sym (effected place (note_as a.edition (record { sign = sign_of before.value; used = 0 }) (get_or line place 0) (drop (place + 1) line)))
    ∙ ap effected_in (note_letter a.edition line a.at before c.accidental_before-before.ensures c.if-line-place.false (sym c.is_letter.ensures ∙ c.if-is_letter.true))
    ∙ effected a.at (note_of a.edition (drop a.at line))

pub returns : goal.returns
unfolding effect_in
returns c =
    let a = c.args in
    ap effected_in (note_other a.edition a.line.now a.at c.accidental_before-before.result c.accidental_before-before.ensures c.if-line-place.false (sym c.is_letter.ensures ∙ c.if-is_letter.false))
    ∙ effected a.at (note_of a.edition (drop a.at a.line.now))
