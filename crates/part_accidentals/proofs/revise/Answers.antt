-- `part_accidentals::revise` meets its contract: three writes, each where the one before it ended.
use Prim.Native.Nat.{ℕ}
use mathlib.Core.Path.{refl, ap, ◌∙◌}
use Rattle.laws.specs.Bytes.{splice}
use Rattle.laws.proofs.Splices.{spliced_next}
use Rattle.part_rows.specs.Encoded.{scope_slot}
use Rattle.part_accidentals.proofs.revise.Goals as goal

pub returns : goal.returns
returns c =
    let a = c.args in
    let two = spliced_next _ _ _ _ _ _ _ c.put_u8.ensures c.put_u8-2.ensures refl in
    spliced_next _ _ _ _ _ _ _ two c.put_u8-3.ensures refl ∙ ap (λ (k : ℕ). splice a.store.now k (scope_slot a.accidental.alter a.accidental.cents)) c.slot_at-slot.ensures
