-- `token_pitches::accidental_before` meets its contract.
use mathlib.Core.Path.{sym, ap, ◌∙◌}
use native.Mathlib.Nat.{add-zero}
use Rattle.token_pitches.specs.Pitches.{before_for}
use Rattle.token_pitches.proofs.Accidentals.{before_up, before_down, before_natural, before_none}
use Rattle.token_pitches.proofs.accidental_before.Goals as goal

pub returns-then-first-eq94 : goal.returns-then-first-eq94
returns-then-first-eq94 c =
    let a = c.args in
    c.signs.ensures ∙ ap (before_for a.at) (sym (before_up a.line.now a.at (sym c.byte_at-first.ensures ∙ c.if-first-eq94.true)))

pub returns-then-first-eq95 : goal.returns-then-first-eq95
returns-then-first-eq95 c =
    let a = c.args in
    c.signs-then-first-eq95.ensures ∙ ap (before_for a.at) (sym (before_down a.line.now a.at (sym c.byte_at-first.ensures ∙ c.if-first-eq95.true)))

pub returns-then-first-eq61 : goal.returns-then-first-eq61
returns-then-first-eq61 c =
    let a = c.args in
    rw (before_natural a.line.now a.at (sym c.byte_at-first.ensures ∙ c.if-first-eq61.true))

pub returns : goal.returns
returns c =
    let a = c.args in
    rw (before_none a.line.now a.at (λ k. c.if-first-eq94.false (c.byte_at-first.ensures ∙ k)) (λ k. c.if-first-eq95.false (c.byte_at-first.ensures ∙ k)) (λ k. c.if-first-eq61.false (c.byte_at-first.ensures ∙ k)), add-zero)
