-- `abc::abc_played` meets its contract: the answer of `played_measures`, packed.
use mathlib.Core.Path.{ap, ◌∙◌}
use borrow.Author.Rules.{rules}
use Rattle.abc.specs.Packed.{packed}
use Rattle.abc.proofs.Packs.{short_list_as}
use Rattle.abc.proofs.abc_played.Goals as goal

pub pack-requires : goal.pack-requires
pack-requires c = short_list_as _ _ _ _ c.played_measures.ensures.result_value

pub returns : goal.returns
returns c =
    let p = c.played_measures.ensures in
    record { value = c.pack.ensures.value ∙ ap packed p.result_value; result_value = c.pack.ensures.result_value ∙ p.result_value; list_after = p.list_after }
