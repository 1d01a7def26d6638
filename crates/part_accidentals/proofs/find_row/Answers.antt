-- `part_accidentals::find_row` meets its contract: one law for each way out.
use mathlib.Core.Path.{sym}
use Rattle.part_scopes.proofs.Places.{place_over}
use Rattle.part_accidentals.proofs.Resolving.{no_entry, no_such_row, other_step, other_octave, row_is}
use Rattle.part_accidentals.proofs.find_row.Goals as goal

pub returns-then-count-eq0 : goal.returns-then-count-eq0
returns-then-count-eq0 c =
    let a = c.args in
    sym (place_over a.store.now a.at a.count a.step a.octave c.if-count-eq0.true)

pub returns-then-place-eq0 : goal.returns-then-place-eq0
returns-then-place-eq0 c =
    let a = c.args in
    no_entry a.store.now a.at a.count a.step a.octave _ _ c.entry_at.ensures c.get_u32-place.ensures c.if-place-eq0.true

pub returns-then-count-place : goal.returns-then-count-place
returns-then-count-place c =
    let a = c.args in
    no_such_row a.store.now a.at a.count a.step a.octave _ _ c.entry_at.ensures c.get_u32-place.ensures c.if-count-place.true

pub returns-then-store-row : goal.returns-then-store-row
returns-then-store-row c =
    let a = c.args in
    other_step a.store.now a.at a.count a.step a.octave _ _ c.entry_at.ensures c.get_u32-place.ensures _ c.row_at-row.ensures c.if-store-row.true

pub returns-then-store-row-2 : goal.returns-then-store-row-2
returns-then-store-row-2 c =
    let a = c.args in
    other_octave a.store.now a.at a.count a.step a.octave _ _ c.entry_at.ensures c.get_u32-place.ensures _ c.row_at-row.ensures c.if-store-row-2.true

pub returns : goal.returns
returns c =
    let a = c.args in
    row_is a.store.now a.at a.count a.step a.octave _ _ c.entry_at.ensures c.get_u32-place.ensures _ c.row_at-row.ensures c.if-place-eq0.false c.if-count-place.false c.if-store-row.false c.if-store-row-2.false
