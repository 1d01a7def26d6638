-- `part_measures::put_measure` meets its contract: four writes, each where the last one ended.
use mathlib.Core.Path.{refl}
use Rattle.laws.proofs.Splices.{spliced_next}
use Rattle.part_measures.specs.Heads.{new_row}
use Rattle.part_measures.proofs.put_measure.Goals as goal

pub returns : goal.returns
unfolding new_row
returns c =
    let e2 = spliced_next _ _ _ _ _ _ _ c.put_no_counts.ensures c.put_4.ensures refl in
    let e3 = spliced_next _ _ _ _ _ _ _ e2 c.put_4-2.ensures refl in
    spliced_next _ _ _ _ _ _ _ e3 c.put_4-3.ensures refl
