-- `token_pitches::octave_marks` meets its contract.
use native.Mathlib.Omega.{arith}
use Prim.Native.Nat.{◌≤◌}
use Rattle.token_pitches.proofs.Octaves.{marks_none, marks_low, marks_high, marks_at}
use Rattle.token_pitches.proofs.octave_marks.Goals as goal

pub returns-then-byte_at-gt44 : goal.returns-then-byte_at-gt44
returns-then-byte_at-gt44 c =
    let a = c.args in
    marks_none a.line.now a.at a.start (rw c.byte_at.ensures at c.if-byte_at-gt44.true) (omega arith)

pub returns-then-first-down : goal.returns-then-first-down
returns-then-first-down c =
    let a = c.args in
    marks_low a.line.now a.at a.start c.run_end-down.result c.run_end-up.result c.run_end-down.ensures c.run_end-up.ensures c.if-first-down.true

pub returns-then-low-up : goal.returns-then-low-up
returns-then-low-up c =
    let a = c.args in
    let l : a.start ≤ 255 = omega arith in
    marks_high a.line.now a.at a.start c.run_end-down.result c.run_end-up.result c.run_end-down.ensures c.run_end-up.ensures c.if-first-down.false c.if-low-up.true l

pub returns : goal.returns
returns c =
    let a = c.args in
    let l : a.start ≤ 255 = omega arith in
    marks_at a.line.now a.at a.start c.run_end-down.result c.run_end-up.result c.run_end-down.ensures c.run_end-up.ensures c.if-first-down.false c.if-low-up.false l
