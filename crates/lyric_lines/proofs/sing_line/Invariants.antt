-- `lyric_lines::sing_line` meets its contract.
use Prim.Native.Nat.{◌-◌}
use Rattle.lyric_lines.proofs.Singing.{Singing}
use Rattle.lyric_lines.proofs.sing_line.Given as goal

abbrev pub invariant-loop-cursor : goal.invariant-loop-cursor
invariant-loop-cursor l = Singing l.edition l.text l.initial.scratch l.sheet l.line l.scratch l.cursor l.place l.count

abbrev pub decreases-loop-cursor : goal.decreases-loop-cursor
decreases-loop-cursor l = l.line.end - l.cursor.at
