-- `token_pitches::chord_sign` meets its contract.
use mathlib.Core.Path.{sym, ◌∙◌}
use Rattle.token_pitches.proofs.InChord.{sign_first_quarter, sign_first, sign_next}
use Rattle.token_pitches.proofs.chord_sign.Goals as goal

pub returns-then-byte_at-eq47 : goal.returns-then-byte_at-eq47
returns-then-byte_at-eq47 c =
    let a = c.args in
    rw c.quarter_tone.ensures
    (sign_first_quarter a.line.now a.at a.up a.waits c.in-Nothing.is (sym c.byte_at.ensures ∙ c.if-byte_at-eq47.true))

pub returns-else-byte_at-eq47 : goal.returns-else-byte_at-eq47
returns-else-byte_at-eq47 c =
    let a = c.args in
    sign_first a.line.now a.at a.up a.waits c.in-Nothing.is (λ k. c.if-byte_at-eq47.false (c.byte_at.ensures ∙ k)) c.moved.result c.moved.ensures

pub returns-in-Written : goal.returns-in-Written
returns-in-Written c =
    let a = c.args in
    sign_next a.line.now a.at a.up a.waits c.in-Written.alter c.in-Written.cents c.in-Written.is c.moved-in-Written.result c.moved-in-Written.ensures
