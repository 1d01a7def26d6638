-- `write_notes::is_lead` meets its contract.
use Prim.Native.Nat.{◌+◌, ◌-◌, ◌*◌}
use mathlib.Core.Path.{◌≡◌}
use Rattle.part_rows.specs.Encoded.{note_row_width}
use Rattle.write_notes.specs.Out.{leads}
use Rattle.write_notes.proofs.is_lead.Given as goal

abbrev pub invariant-loop-row : goal.invariant-loop-row
invariant-loop-row l = leads l.store (l.place + note_row_width * l.row) (l.k - l.row) ≡ leads l.store l.place l.k
