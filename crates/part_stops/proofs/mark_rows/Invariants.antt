-- `part_stops::mark_rows` meets its contract: the rows before row i are marked (`Marking`).
use Prim.Native.Nat.{◌+◌, ◌-◌, ◌*◌}
use Rattle.part_rows.specs.Encoded.{note_row_width}
use Rattle.part_stops.proofs.Forward.{Marking}
use Rattle.part_stops.proofs.mark_rows.Given as goal

abbrev pub invariant-loop-i : goal.invariant-loop-i
invariant-loop-i l = Marking l.initial.scratch l.stops l.place l.k l.initial.q l.scratch l.q (l.place + note_row_width * l.i) (l.k - l.i)
