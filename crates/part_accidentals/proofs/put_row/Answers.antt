-- `part_accidentals::put_row` meets its contract: the row by four writes, each where the one before it ended; then its entry.
use mathlib.Core.Path.{refl, ap, ◌∙◌}
use Prim.Native.Nat.{ℕ, ◌+◌}
use Rattle.laws.specs.Bytes.{splice, le32}
use Rattle.laws.proofs.Splices.{spliced_next}
use Rattle.part_rows.specs.Encoded.{scope_row}
use Rattle.part_scopes.specs.Scopes.{with_row}
use Rattle.part_accidentals.proofs.put_row.Goals as goal

pub returns : goal.returns
unfolding with_row
returns c =
    let a = c.args in
    let two = spliced_next _ _ _ _ _ _ _ c.put_4.ensures c.put_4-2.ensures refl in
    let three = spliced_next _ _ _ _ _ _ _ two c.put_4-3.ensures refl in
    let four = spliced_next _ _ _ _ _ _ _ three c.put_4-4.ensures refl ∙ ap (λ (k : ℕ). splice a.store.now k (scope_row a.step a.octave)) c.row_at-row.ensures in
    c.put_u32.ensures ∙ (λ i. splice (four i) (c.entry_at.ensures i) (le32 (a.count + 1)))
