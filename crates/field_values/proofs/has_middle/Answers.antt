-- `field_values::has_middle` meets its contract, word by word.
use mathlib.Core.Path.{sym, ap, ◌∙◌}
use Rattle.laws.specs.Lists.{any, starts_with}
use Rattle.standard.specs.Bytes.{ascii}
use Rattle.reader.specs.Fields.{middle_word}
use Rattle.field_values.proofs.FieldLaws.{middle_here, middle_on}
use Rattle.field_values.proofs.has_middle.Goals as goal

pub returns-then-starts_with : goal.returns-then-starts_with
returns-then-starts_with c = sym (middle_here _ _ _ c.in-Some.ensures (sym c.starts_with.ensures ∙ c.if-starts_with.true)) ∙ c.loop-word.invariant

pub loop-word-preserved : goal.loop-word-preserved
loop-word-preserved c = sym (middle_on _ _ _ c.in-Some.ensures (sym c.starts_with.ensures ∙ c.if-starts_with.false)) ∙ c.loop-word.invariant

pub returns : goal.returns
unfolding middle_word
returns c = sym (ap (any (starts_with (ascii "middle="))) c.in_default.ensures) ∙ c.loop-word.invariant
