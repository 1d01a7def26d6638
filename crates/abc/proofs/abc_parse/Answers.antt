-- `abc::abc_parse` meets its contract: the answer of `parse_abc` in the first edition, packed.
use mathlib.Core.Path.{ap, ◌∙◌}
use borrow.Author.Rules.{rules}
use Rattle.abc.specs.Packed.{packed}
use Rattle.abc.proofs.Packs.{short_as}
use Rattle.abc.proofs.abc_parse.Goals as goal

pub pack-requires : goal.pack-requires
pack-requires c = short_as _ _ _ _ _ c.parse_abc.ensures.result_value

pub returns : goal.returns
returns c =
    let p = c.parse_abc.ensures in
    record { value = c.pack.ensures.value ∙ ap packed p.result_value; result_value = c.pack.ensures.result_value ∙ p.result_value; reading_after = p.reading_after; scratch_after = p.scratch_after }
