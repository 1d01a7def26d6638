-- `abc_text::append_parts` meets its contract: so far the parts below `part` are written, and the items in scratch are what they were.
use mathlib.Core.Path.{◌≡◌, refl}
use native.Mathlib.Omega.{arith}
use borrow.Author.Rules.{rules}
use Rattle.store_sections.proofs.Writes.{in_store, start}
use Rattle.field_keys.specs.Passed.{key_as}
use Rattle.scan_table.specs.Rows.{items_in}
use Rattle.abc_text.proofs.Room.{second_fits, own_inside, own_items, own_room, own_kept, parts_none, one_part, no_part}
use Rattle.abc_text.proofs.append_parts.Goals as goal

pub loop-part-init : goal.loop-part-init
loop-part-init c = (refl, refl, refl, rw parts_none (start _))

pub own_items-own-requires : goal.own_items-own-requires
own_items-own-requires c =
    let p = c.requires in
    let v = c.loop-part.invariant in
    (second_fits _ _ _ p _ v.2 v.1, p.short)

-- a part's own items are lent
pub slice_bounds-write_part-count : goal.slice_bounds-write_part-count
slice_bounds-write_part-count c =
    let v = c.loop-part.invariant in
    own_inside _ _ _ c.requires _ v.2 v.1 _ _ _ c.own_items-own.ensures

pub slice_bounds-write_part-start : goal.slice_bounds-write_part-start
slice_bounds-write_part-start c =
    let v = c.loop-part.invariant in
    own_inside _ _ _ c.requires _ v.2 v.1 _ _ _ c.own_items-own.ensures

-- and the reading store from where the last part ended
pub slice_bounds-write_part-count-in-loop-part : goal.slice_bounds-write_part-count-in-loop-part
slice_bounds-write_part-count-in-loop-part c = (in_store c.loop-part.invariant.3).0

pub slice_bounds-write_part-start-in-loop-part : goal.slice_bounds-write_part-start-in-loop-part
slice_bounds-write_part-start-in-loop-part c = (in_store c.loop-part.invariant.3).0

pub write_part-requires : goal.write_part-requires
write_part-requires c =
    let v = c.loop-part.invariant in
    own_room _ _ _ c.requires _ v.2 v.1 _ _ _ c.own_items-own.ensures

-- a part more has no room: all have none
pub returns-in_err-at : goal.returns-in_err-at
returns-in_err-at c =
    let l = c.loop-part in
    let a = c.args in
    let mine = own_items _ _ _ c.requires _ l.invariant.2 l.invariant.1 _ _ _ c.own_items-own.ensures in
    rw c.from_residual.ensures
    (no_part _ (key_as a.key) (items_in a.text.now a.scratch.now a.n) _ l.part a.count c.loop-part-test.true l.invariant.3 mine
    c.in_err-at.ensures.wrote_is)

pub overflow_add-at : goal.overflow_add-at
overflow_add-at c =
    let l = c.loop-part in
    let a = c.args in
    let mine = own_items _ _ _ c.requires _ l.invariant.2 l.invariant.1 _ _ _ c.own_items-own.ensures in
    omega (
      arith,
      (one_part _ (key_as a.key) (items_in a.text.now a.scratch.now a.n) _ l.part l.invariant.3 mine
          c.in_ok-at.ensures.wrote_is).says.1,
      c.well_formed,
    )

pub loop-part-preserved : goal.loop-part-preserved
loop-part-preserved c =
    let l = c.loop-part in
    let a = c.args in
    let p = c.requires in
    let o = c.own_items-own.ensures in
    let kept = c.in_ok-at.ensures.items_unchanged in
    let mine = own_items _ _ _ p _ l.invariant.2 l.invariant.1 _ _ _ o in
    let w = one_part _ (key_as a.key) (items_in a.text.now a.scratch.now a.n) _ l.part l.invariant.3 mine
    c.in_ok-at.ensures.wrote_is in
    let after = own_kept _ _ _ p _ l.invariant.2 l.invariant.1 _ _ _ o _ kept.0 kept.1 in
    ((in_store w).1, after.0, after.1, w)

pub returns : goal.returns
returns c =
    let e : c.loop-part.part ≡ c.args.count = omega (arith, c.loop-part-test.false) in
    rw e at c.loop-part.invariant.3
