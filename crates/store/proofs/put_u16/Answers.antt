-- `store::put_u16` meets its contract: two writes, the second where the first ended.
use mathlib.Core.Path.{refl, ◌∙◌}
use Rattle.laws.proofs.Numbers.{le16_bytes}
use Rattle.laws.proofs.Splices.{spliced_next}
use Rattle.store.proofs.put_u16.Goals as goal

pub returns : goal.returns
returns c = spliced_next _ _ _ _ _ _ _ c.put_u8.ensures c.put_u8-2.ensures refl ∙ rw (c.to_le_bytes.ensures, le16_bytes)
