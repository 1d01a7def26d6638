-- `write_pitches::pitches_end` meets its contract.
use Prim.Native.Nat.{◌+◌, ◌-◌, ◌*◌}
use native.Mathlib.Omega.{arith}
use Rattle.part_rows.specs.Encoded.{note_row_width}
use Rattle.write_pitches.proofs.Out.{pitch_total_more, pitch_total_first, pitch_total_none}
use Rattle.write_pitches.proofs.pitches_end.Goals as goal

pub loop-row-init : goal.loop-row-init
loop-row-init c = omega (arith, pitch_total_first c.args.store.now c.args.place c.args.k)

pub overflow_add-end : goal.overflow_add-end
overflow_add-end c =
    let l = c.loop-row in
    let a = c.args in
    omega (arith, l.invariant, pitch_total_more a.store.now a.place a.k l.row c.loop-row-test.true, c.pitch_bytes-end.ensures, c.requires, c.well_formed)

pub loop-row-preserved : goal.loop-row-preserved
loop-row-preserved c =
    let l = c.loop-row in
    let a = c.args in
    omega (arith, l.invariant, pitch_total_more a.store.now a.place a.k l.row c.loop-row-test.true, c.pitch_bytes-end.ensures)

pub returns : goal.returns
returns c =
    let l = c.loop-row in
    let a = c.args in
    omega (arith, l.invariant, pitch_total_none a.store.now (a.place + note_row_width * l.row) (a.k - l.row) (omega (arith, c.loop-row-test.false)))
