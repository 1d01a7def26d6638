-- `write_syllables::write_verses` meets its contract: window after window.
use Prim.Native.Nat.{ℕ, ◌-◌, ◌%◌, ◌≤◌}
use mathlib.Core.Path.{◌≡◌}
use lib.ListN.{length}
use Rattle.write_notes.proofs.Written.{Written}
use Rattle.lyric_walk.specs.Walks.{chain, within, window}
use Rattle.write_syllables.specs.Pieces.{pieces}
use Rattle.write_syllables.proofs.write_verses.Given as goal

-- past every verse
abbrev pub past : ℕ
past = 264

abbrev pub invariant-loop-from : goal.invariant-loop-from
invariant-loop-from l =
    (l.from ≤ past) × (l.from % window ≡ 0) × (length l.to ≡ length l.initial.to) × Written l.initial.to (pieces l.texts l.note (chain l.text l.store l.log l.k)) (pieces l.texts l.note (within l.from past (chain l.text l.store l.log l.k))) l.to l.at

abbrev pub decreases-loop-from : goal.decreases-loop-from
decreases-loop-from l = past - l.from
