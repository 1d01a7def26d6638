-- `token_pitches::next_chord_pitch` meets its contract. The loop's invariant: what is met from i on, with the accidental that waits, is what is met from `at` on; the measure is what is left of the line.
use Prim.Native.Nat.{◌+◌}
use mathlib.Core.Path.{sym, ◌∙◌}
use mathlib.Core.Bool.{true, false}
use native.Mathlib.Omega.{arith}
use lib.ListN.{drop}
use Rattle.token_pitches.specs.Pitches.{sign_of}
use Rattle.token_pitches.proofs.Walk.{mark_back, sign_takes, met_close, met_end, met_up, met_down, met_natural, met_letter, met_other}
use Rattle.token_pitches.proofs.next_chord_pitch.Goals as goal

pub returns-then-c-eq93 : goal.returns-then-c-eq93
returns-then-c-eq93 c =
    sym (met_close c.args.line.now c.loop-i.i (sign_of c.loop-i.waits) c.loop-i-test.true c.if-c-eq93.true) ∙ c.loop-i.invariant

pub loop-i-smaller-then-c-eq94 : goal.loop-i-smaller-then-c-eq94
loop-i-smaller-then-c-eq94 c =
    rw c.chord_sign-sign.ensures (omega (arith, sign_takes true (sign_of c.loop-i.waits) (drop (c.loop-i.i + 1) c.args.line.now)))

pub loop-i-preserved-then-c-eq94 : goal.loop-i-preserved-then-c-eq94
loop-i-preserved-then-c-eq94 c =
    let a = c.args in
    rw (c.chord_sign-sign.ensures, mark_back)
    (sym (met_up a.line.now c.loop-i.i (sign_of c.loop-i.waits) c.loop-i-test.true c.if-c-eq94.true) ∙ c.loop-i.invariant)

pub loop-i-smaller-then-c-eq95 : goal.loop-i-smaller-then-c-eq95
loop-i-smaller-then-c-eq95 c =
    rw c.chord_sign-sign-then-c-eq95.ensures (omega (arith, sign_takes false (sign_of c.loop-i.waits) (drop (c.loop-i.i + 1) c.args.line.now)))

pub loop-i-preserved-then-c-eq95 : goal.loop-i-preserved-then-c-eq95
loop-i-preserved-then-c-eq95 c =
    let a = c.args in
    rw (c.chord_sign-sign-then-c-eq95.ensures, mark_back)
    (sym (met_down a.line.now c.loop-i.i (sign_of c.loop-i.waits) c.loop-i-test.true c.if-c-eq95.true) ∙ c.loop-i.invariant)

pub loop-i-preserved-then-c-eq61 : goal.loop-i-preserved-then-c-eq61
loop-i-preserved-then-c-eq61 c =
    let a = c.args in
    sym (met_natural a.line.now c.loop-i.i (sign_of c.loop-i.waits) c.loop-i-test.true c.if-c-eq61.true) ∙ c.loop-i.invariant

pub returns-then-is_letter : goal.returns-then-is_letter
returns-then-is_letter c =
    let a = c.args in
    c.chord_letter.ensures
    ∙ sym (met_letter a.line.now c.loop-i.i (sign_of c.loop-i.waits) c.loop-i-test.true c.if-c-eq93.false c.if-c-eq94.false c.if-c-eq95.false c.if-c-eq61.false
    (sym c.is_letter.ensures ∙ c.if-is_letter.true))
    ∙ c.loop-i.invariant

pub loop-i-preserved : goal.loop-i-preserved
loop-i-preserved c =
    let a = c.args in
    sym (met_other a.line.now c.loop-i.i (sign_of c.loop-i.waits) c.loop-i-test.true c.if-c-eq93.false c.if-c-eq94.false c.if-c-eq95.false c.if-c-eq61.false
    (sym c.is_letter.ensures ∙ c.if-is_letter.false))
    ∙ c.loop-i.invariant

pub returns : goal.returns
returns c =
    sym (met_end c.args.line.now c.loop-i.i (sign_of c.loop-i.waits) c.loop-i-test.false) ∙ c.loop-i.invariant
