-- `token_pitches::signs` meets its contract.
use mathlib.Core.Path.{sym, ◌∙◌}
use Rattle.token_pitches.proofs.Accidentals.{signs_quarter, signs_many, signs_plain}
use Rattle.token_pitches.proofs.signs.Goals as goal
use Rattle.token_pitches.proofs.signs.Goals.{else-n-eq1-via-then-n-eq1+else-byte_at-eq47, else-n-eq1-via-else-n-eq1}

pub returns-then-byte_at-eq47 : goal.returns-then-byte_at-eq47
returns-then-byte_at-eq47 c =
    rw c.quarter_tone.ensures
    (signs_quarter c.args.line.now c.args.at c.args.up c.args.b c.run_end-end.result c.run_end-end.ensures
    c.if-n-eq1.true (sym c.byte_at.ensures ∙ c.if-byte_at-eq47.true))

pub returns : goal.returns
returns c =
    rw c.moved.ensures
    (elim c.else-n-eq1.branch [
      | else-n-eq1-via-then-n-eq1+else-byte_at-eq47 w ↦ signs_plain c.args.line.now c.args.at c.args.up c.args.b c.run_end-end.result c.run_end-end.ensures (λ k. w.if-byte_at-eq47.false (w.byte_at.ensures ∙ k))
      | else-n-eq1-via-else-n-eq1 w ↦ signs_many c.args.line.now c.args.at c.args.up c.args.b c.run_end-end.result c.run_end-end.ensures w.if-n-eq1.false
    ])
