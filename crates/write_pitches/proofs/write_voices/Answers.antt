-- `write_pitches::write_voices` meets its contract: voice after voice.
use Prim.Native.Nat.{◌+◌, ◌-◌}
use mathlib.Core.Path.{refl}
use native.Mathlib.Omega.{arith}
use Rattle.write_notes.proofs.Written.{begin, written_in, written_on_lem, written_none, written_all}
use Rattle.write_pitches.specs.Out.{voices_out}
use Rattle.write_pitches.proofs.Out.{voices_step, voices_none}
use Rattle.write_pitches.proofs.write_voices.Goals as goal

pub loop-voice-init : goal.loop-voice-init
loop-voice-init c = (refl, begin _ _)

pub slice_bounds-write_voice-count : goal.slice_bounds-write_voice-count
slice_bounds-write_voice-count c = omega (arith, (written_in c.loop-voice.invariant.1).0)

pub slice_bounds-write_voice-start : goal.slice_bounds-write_voice-start
slice_bounds-write_voice-start c = omega (arith, (written_in c.loop-voice.invariant.1).0)

pub returns-in_err-at : goal.returns-in_err-at
returns-in_err-at c =
    let l = c.loop-voice in
    rw c.from_residual.ensures (written_none l.invariant.1 c.in_err-at.ensures (voices_out _ _ _ _ (l.voice + 1) (4 - (l.voice + 1))) (voices_step _ _ _ _ _ 4 c.loop-voice-test.true))

pub overflow_add-at : goal.overflow_add-at
overflow_add-at c =
    let w = written_on_lem c.loop-voice.invariant.1 c.in_ok-at.ensures (voices_step _ _ _ _ _ 4 c.loop-voice-test.true) in
    omega (arith, w.wrote.says.1, c.well_formed)

pub loop-voice-preserved : goal.loop-voice-preserved
loop-voice-preserved c =
    let w = written_on_lem c.loop-voice.invariant.1 c.in_ok-at.ensures (voices_step _ _ _ _ _ 4 c.loop-voice-test.true) in
    ((written_in w).1, w)

pub returns : goal.returns
returns c = written_all c.loop-voice.invariant.1 (voices_none _ _ _ _ _ 4 (omega arith))
