-- `token_pitches::next_chord_pitch` meets its contract. The loop's invariant: what is met from i on, with the accidental that waits, is what is met from `at` on; the measure is what is left of the line.
use Prim.Native.Nat.{◌-◌}
use mathlib.Core.Path.{◌≡◌}
use mathlib.Core.Option.{none}
use lib.ListN.{length, drop}
use Rattle.token_pitches.specs.Pitches.{sign_of}
use Rattle.token_pitches.specs.Chords.{pitch_met, met_for}
use Rattle.token_pitches.proofs.next_chord_pitch.Given as goal

abbrev pub invariant-loop-i : goal.invariant-loop-i
invariant-loop-i l = met_for l.i (pitch_met 0 (sign_of l.waits) (drop l.i l.line)) ≡ met_for l.at (pitch_met 0 none (drop l.at l.line))

abbrev pub decreases-loop-i : goal.decreases-loop-i
decreases-loop-i l = length l.line - l.i
