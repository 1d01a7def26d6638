-- `text_words::trim_start` meets its contract, by the first byte of what is left.
use mathlib.Core.Path.{sym, ap, ◌∙◌}
use Rattle.reader.specs.Pieces.{trim_start}
use Rattle.text_words.proofs.Trims.{trim_start_space, trim_start_word, trim_start_over}
use Rattle.text_words.proofs.trim_start.Goals as goal

pub returns-then-not-is_space : goal.returns-then-not-is_space
returns-then-not-is_space c =
    let e = c.in-Some.ensures.cases.0 in
    e ∙ sym (trim_start_word _ _ (sym c.is_space.ensures ∙ c.if-not-is_space.true)) ∙ ap trim_start (sym e) ∙ c.loop-first.invariant

pub loop-first-preserved : goal.loop-first-preserved
loop-first-preserved c =
    let e = c.in-Some.ensures.cases.0 in
    sym (trim_start_space _ _ (sym c.is_space.ensures ∙ c.if-not-is_space.false)) ∙ ap trim_start (sym e) ∙ c.loop-first.invariant

pub returns : goal.returns
returns c = trim_start_over _ _ c.in_default.ensures.cases c.loop-first.invariant
