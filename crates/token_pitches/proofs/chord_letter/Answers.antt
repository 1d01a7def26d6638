-- `token_pitches::chord_letter` meets its contract.
use mathlib.Core.Path.{sym, ◌∙◌}
use Rattle.token_pitches.proofs.InChord.{letter_refused, letter_read}
use Rattle.token_pitches.proofs.chord_letter.Goals as goal

pub returns-in-Err : goal.returns-in-Err
returns-in-Err c =
    let a = c.args in
    letter_refused a.line.now a.at a.waits c.abc_note_char-letter.result c.abc_note_char-letter.ensures _ (sym c.octave_marks.ensures ∙ c.in-Err.is)

pub returns-in-Ok : goal.returns-in-Ok
returns-in-Ok c =
    let a = c.args in
    letter_read a.line.now a.at a.waits c.abc_note_char-letter.result c.abc_note_char-letter.ensures _ _ (sym c.octave_marks.ensures ∙ c.in-Ok.is)
