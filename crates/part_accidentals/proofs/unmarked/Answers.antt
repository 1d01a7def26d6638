-- `part_accidentals::unmarked` meets its contract: by the slot, or by the key.
use Prim.Native.Nat.{◌+◌}
use mathlib.Core.Path.{sym, ◌∙◌}
use lib.ListN.{get_or}
use Rattle.part_rows.specs.Encoded.{slot_alter_at, slot_cents_at}
use Rattle.part_scopes.proofs.Places.{place_inside}
use Rattle.part_accidentals.proofs.Resolving.{given_inside, by_slot, by_key}
use native.Mathlib.Omega.{arith}
use Rattle.part_accidentals.proofs.unmarked.Goals as goal

pub is_given-requires : goal.is_given-requires
is_given-requires c =
    let a = c.args in
    let pre = c.requires in
    (pre.0, omega (arith, pre.2, c.find_row-place.ensures, place_inside a.store.now a.at a.count a.step a.octave))

pub slot_at-slot-requires : goal.slot_at-slot-requires
slot_at-slot-requires c =
    let a = c.args in
    let pre = c.requires in
    let in_row = given_inside a.store.now a.at a.count a.voice a.step a.octave _ c.find_row-place.ensures (sym c.is_given.ensures ∙ c.if-is_given.true) in
    (in_row.0, pre.0, omega (arith, pre.2, in_row.1))

pub bounds-store-slot : goal.bounds-store-slot
bounds-store-slot c =
    let a = c.args in
    let pre = c.requires in
    let in_row = given_inside a.store.now a.at a.count a.voice a.step a.octave _ c.find_row-place.ensures (sym c.is_given.ensures ∙ c.if-is_given.true) in
    omega (arith, pre.0, pre.2, in_row.0, in_row.1, c.slot_at-slot.ensures)

pub bounds-store-slot-then-is_given : goal.bounds-store-slot-then-is_given
bounds-store-slot-then-is_given c =
    let a = c.args in
    let pre = c.requires in
    let in_row = given_inside a.store.now a.at a.count a.voice a.step a.octave _ c.find_row-place.ensures (sym c.is_given.ensures ∙ c.if-is_given.true) in
    omega (arith, pre.0, pre.2, in_row.0, in_row.1, c.slot_at-slot.ensures)

pub returns-then-is_given : goal.returns-then-is_given
returns-then-is_given c =
    let a = c.args in
    let s = a.store.now in
    let slot = c.slot_at-slot.ensures in
    λ k e. (λ i. record { step = a.step; octave = a.octave; alter = get_or s (slot i + slot_alter_at) 0; cents = get_or s (slot i + slot_cents_at) 0 })
    ∙ by_slot s a.at a.count a.voice a.step a.octave _ c.find_row-place.ensures (sym c.is_given.ensures ∙ c.if-is_given.true) k

pub returns : goal.returns
returns c =
    let a = c.args in
    λ k e. by_key a.store.now a.at a.count a.voice a.step a.octave _ c.find_row-place.ensures (sym c.is_given.ensures ∙ c.if-is_given.false) k _ (c.abc_key_alter.ensures k e)
