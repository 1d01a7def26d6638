-- `part_accidentals::abc_key_alter` meets its contract.
use Rattle.part_accidentals.proofs.Keys.{key_by_lem}
use Rattle.part_accidentals.proofs.abc_key_alter.Goals as goal

pub returns : goal.returns
returns c = λ k e. key_by_lem k _ _ e _ _ c.from-sharp.ensures c.from-flat.ensures
