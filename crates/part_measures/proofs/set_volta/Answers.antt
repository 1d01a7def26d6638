-- `part_measures::set_volta` meets its contract: three writes, each where the last one ended.
use mathlib.Core.Path.{refl}
use Rattle.laws.proofs.Splices.{spliced_next}
use Rattle.part_measures.proofs.set_volta.Goals as goal

pub returns : goal.returns
returns c =
    let e2 = spliced_next _ _ _ _ _ _ _ c.put_u8.ensures c.put_u8-2.ensures refl in
    spliced_next _ _ _ _ _ _ _ e2 c.put_u32.ensures refl
