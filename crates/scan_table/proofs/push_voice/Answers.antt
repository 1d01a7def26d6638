-- `scan_table::push_voice` meets its contract: two writes, the second where the first ended.
use mathlib.Core.Path.{refl}
use Rattle.laws.specs.Bytes.{little}
use Rattle.laws.proofs.Splices.{spliced_next}
use Rattle.scan_table.proofs.push_voice.Goals as goal

pub returns : goal.returns
unfolding little
returns c = spliced_next _ _ _ _ _ _ _ c.put_u32.ensures c.put_u32-2.ensures refl
