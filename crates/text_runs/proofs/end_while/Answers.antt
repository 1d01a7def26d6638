-- `text_runs::end_while` meets its contract.
use mathlib.Core.Path.{◌≡◌, sym, ◌∙◌}
use native.Mathlib.Omega.{arith}
use Rattle.laws.specs.Spans.{end_in}
use Rattle.laws.proofs.Parts.{end_in_more, end_in_stop, end_in_over}
use Rattle.text_runs.proofs.Ends.{end_in_most}
use Rattle.text_runs.proofs.end_while.Goals as goal

pub returns-then-not-passes : goal.returns-then-not-passes
returns-then-not-passes g c =
    let a = c.args in
    let l = c.loop-i in
    λ p f. sym (end_in_stop p a.line.now l.i a.to c.loop-i-test.true c.requires.within (sym (f _ _ c.passes.ensures) ∙ c.if-not-passes.true)) ∙ l.invariant p f

pub loop-i-preserved : goal.loop-i-preserved
loop-i-preserved g c =
    let a = c.args in
    let l = c.loop-i in
    λ p f. sym (end_in_more p a.line.now l.i a.to c.loop-i-test.true c.requires.within (sym (f _ _ c.passes.ensures) ∙ c.if-not-passes.false)) ∙ l.invariant p f

pub returns : goal.returns
returns g c =
    let a = c.args in
    let l = c.loop-i in
    λ p f.
    let over : end_in p a.line.now l.i a.to ≡ l.i = end_in_over p a.line.now l.i a.to c.loop-i-test.false in
    c.max.ensures ∙ sym (end_in_most p a.line.now a.from a.to (omega (arith, over, l.invariant p f)))
