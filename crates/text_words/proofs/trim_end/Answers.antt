-- `text_words::trim_end` meets its contract, by the last byte of what is left.
use mathlib.Core.Path.{sym, ap, ◌∙◌}
use Rattle.reader.specs.Pieces.{trim_end}
use Rattle.text_words.proofs.Trims.{trim_end_space, trim_end_word, trim_end_over}
use Rattle.text_words.proofs.trim_end.Goals as goal

pub returns-then-not-is_space : goal.returns-then-not-is_space
returns-then-not-is_space c =
    let e = c.in-Some.ensures.cases.0 in
    e ∙ sym (trim_end_word _ _ (sym c.is_space.ensures ∙ c.if-not-is_space.true)) ∙ ap trim_end (sym e) ∙ c.loop-last.invariant

pub loop-last-preserved : goal.loop-last-preserved
loop-last-preserved c =
    let e = c.in-Some.ensures.cases.0 in
    sym (trim_end_space _ _ (sym c.is_space.ensures ∙ c.if-not-is_space.false)) ∙ ap trim_end (sym e) ∙ c.loop-last.invariant

pub returns : goal.returns
returns c = trim_end_over _ _ c.in_default.ensures.cases c.loop-last.invariant
