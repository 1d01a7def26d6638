-- `write_syllables::write_window` meets its contract: verse after verse.
use Prim.Native.Nat.{◌+◌, ◌≤◌}
use mathlib.Core.Path.{◌≡◌}
use lib.ListN.{length}
use Rattle.write_notes.proofs.Written.{Written}
use Rattle.lyric_walk.specs.Walks.{chain, within, window}
use Rattle.write_syllables.specs.Pieces.{pieces}
use Rattle.write_syllables.proofs.write_window.Given as goal

abbrev pub invariant-loop-verse : goal.invariant-loop-verse
invariant-loop-verse l =
    (l.from ≤ l.verse) × (length l.to ≡ length l.initial.to)
    × Written l.initial.to (pieces l.texts l.note (within l.from (l.from + window) (chain l.text l.store l.log l.k))) (pieces l.texts l.note (within l.verse (l.from + window) (chain l.text l.store l.log l.k))) l.to l.at
