-- `part_items::build_items` meets its contract.
use Rattle.field_keys.specs.Passed.{key_as}
use Rattle.part_items.proofs.Turns.{going_start, going_ready, going_next, going_end}
use native.Mathlib.Omega.{arith}
use Rattle.part_items.proofs.build_items.Goals as goal

pub loop-i-init : goal.loop-i-init
loop-i-init c =
    let a = c.args in
    going_start _ a.text.now a.t (key_as a.header) a.part a.n a.scratch.now c.requires.0 c.requires.1 _ c.begin_part-r.ensures

pub take_item-r-requires : goal.take_item-r-requires
take_item-r-requires c =
    let a = c.args in
    let l = c.loop-i in
    going_ready _ a.text.now a.t (key_as a.header) a.part a.n a.scratch.now c.requires.0 l.scratch l.r l.i l.invariant (omega arith)

pub loop-i-preserved : goal.loop-i-preserved
loop-i-preserved c =
    let a = c.args in
    let l = c.loop-i in
    going_next _ a.text.now a.t (key_as a.header) a.part a.n a.scratch.now c.requires.0 l.scratch l.r l.i l.invariant (omega arith) _ _ c.take_item-r.ensures

pub shape_of-scratch : goal.shape_of-scratch
shape_of-scratch c = c.loop-i.invariant.only.same_length

pub returns : goal.returns
returns c =
    let a = c.args in
    let l = c.loop-i in
    going_end _ a.text.now a.t (key_as a.header) a.part a.n a.scratch.now c.requires.0 l.scratch l.r l.i l.invariant (omega arith)
