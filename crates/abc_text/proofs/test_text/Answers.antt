-- `abc_text::test_text` meets its contract, test by test.
use mathlib.Core.Path.{sym, ◌∙◌}
use Rattle.reader.specs.Answer.{scratch_needed}
use Rattle.abc_text.proofs.Tests.{too_long, not_utf8, all_blank, no_scratch, passes}
use Rattle.abc_text.proofs.test_text.Goals as goal

pub returns-then-text-gt67108864 : goal.returns-then-text-gt67108864
returns-then-text-gt67108864 c = let a = c.args in too_long a.text.now a.room c.if-text-gt67108864.true

pub returns-then-not-is_utf8 : goal.returns-then-not-is_utf8
returns-then-not-is_utf8 c =
    let a = c.args in
    not_utf8 a.text.now a.room c.if-text-gt67108864.false (sym c.is_utf8.ensures ∙ c.if-not-is_utf8.true)

pub returns-then-is_blank : goal.returns-then-is_blank
returns-then-is_blank c =
    let a = c.args in
    all_blank a.text.now a.room c.if-text-gt67108864.false (sym c.is_utf8.ensures ∙ c.if-not-is_utf8.false) (sym c.is_blank.ensures ∙ c.if-is_blank.true)

pub returns-then-room-text : goal.returns-then-room-text
unfolding scratch_needed
returns-then-room-text c =
    let a = c.args in
    no_scratch a.text.now a.room c.if-text-gt67108864.false (sym c.is_utf8.ensures ∙ c.if-not-is_utf8.false) (sym c.is_blank.ensures ∙ c.if-is_blank.false) c.if-room-text.true

pub returns : goal.returns
unfolding scratch_needed
returns c =
    let a = c.args in
    passes a.text.now a.room c.if-text-gt67108864.false (sym c.is_utf8.ensures ∙ c.if-not-is_utf8.false) (sym c.is_blank.ensures ∙ c.if-is_blank.false) c.if-room-text.false
