-- `part_measures::set_meter` meets its contract: two writes, the second where the first ended.
use mathlib.Core.Path.{refl}
use Rattle.laws.proofs.Splices.{spliced_next}
use Rattle.part_measures.proofs.set_meter.Goals as goal

pub returns : goal.returns
returns c = spliced_next _ _ _ _ _ _ _ c.put_u8.ensures c.put_u8-2.ensures refl
