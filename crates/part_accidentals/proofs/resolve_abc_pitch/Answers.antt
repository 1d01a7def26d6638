-- `part_accidentals::resolve_abc_pitch` meets its contract: by its own accidental, or without one.
use mathlib.Core.Path.{ap}
use Rattle.part_accidentals.specs.Resolving.{signs}
use Rattle.part_accidentals.proofs.Resolving.{marked_taken, by_own, by_scope}
use native.Mathlib.Omega.{arith}
use Rattle.part_accidentals.proofs.resolve_abc_pitch.Goals as goal

pub row_for-row-requires : goal.row_for-row-requires
row_for-row-requires c =
    let pre = c.requires in
    let one = ap signs c.in-Written.is in
    (pre.1, omega (arith, pre.3, one), omega (arith, pre.2, one))

pub revise-requires : goal.revise-requires
revise-requires c =
    let a = c.args in
    let pre = c.requires in
    let good = c.well_formed.1.1.1.1.1.0 in
    let m = c.in-Written.is in
    let row = c.row_for-row.ensures in
    let k = marked_taken a.store.now a.at a.count a.state a.voice a.pitch pre.0 pre.1 (omega (arith, good)) _ _ m pre.2 pre.3 _ _ row.0 row.1 in
    (k.some_place, pre.0, omega (arith, pre.2, ap signs m, k.inside, k.most, k.only.same_length))

pub returns-in-Written : goal.returns-in-Written
returns-in-Written c =
    let a = c.args in
    let pre = c.requires in
    let good = c.well_formed.1.1.1.1.1.0 in
    let row = c.row_for-row.ensures in
    by_own a.store.now a.at a.count a.state a.voice a.pitch pre.0 pre.1 (omega (arith, good)) _ _ c.in-Written.is pre.2 pre.3 _ _ _ row.0 row.1 c.revise.ensures _ c.enter.ensures

pub returns-in-Nothing : goal.returns-in-Nothing
returns-in-Nothing c =
    let a = c.args in
    let pre = c.requires in
    let good = c.well_formed.1.1.1.1.1.0 in
    by_scope a.store.now a.at a.count a.state a.voice a.pitch pre.0 pre.1 (omega (arith, good)) c.in-Nothing.is _ c.unmarked.ensures
