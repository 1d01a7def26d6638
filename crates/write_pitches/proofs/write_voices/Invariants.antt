-- `write_pitches::write_voices` meets its contract: voice after voice.
use Prim.Native.Nat.{◌-◌}
use mathlib.Core.Path.{◌≡◌}
use lib.ListN.{length}
use Rattle.write_notes.proofs.Written.{Written}
use Rattle.write_pitches.specs.Out.{voices_out}
use Rattle.write_pitches.proofs.write_voices.Given as goal

abbrev pub invariant-loop-voice : goal.invariant-loop-voice
invariant-loop-voice l =
    (length l.to ≡ length l.initial.to) × Written l.initial.to (voices_out l.store l.place l.pitches l.k 0 4) (voices_out l.store l.place l.pitches l.k l.voice (4 - l.voice)) l.to l.at
