-- The loop's invariant: what is still to come of the line gives the answer.
use Prim.Native.Nat.{◌-◌}
use lib.ListN.{length}
use Rattle.scan_music.proofs.MusicLines.{Walked}
use Rattle.scan_music.proofs.count_line.Given as goal

abbrev pub invariant-loop-cursor : goal.invariant-loop-cursor
invariant-loop-cursor l = Walked l.edition l.line l.fn.start l.count l.cursor.at l.cursor.end

abbrev pub decreases-loop-cursor : goal.decreases-loop-cursor
decreases-loop-cursor l = length l.line - l.cursor.at
