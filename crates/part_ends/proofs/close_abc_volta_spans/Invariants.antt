-- `part_ends::close_abc_volta_spans` meets its contract: measures done and measures left (`Going`).
use Prim.Native.Nat.{◌+◌, ◌*◌}
use mathlib.Core.Path.{◌≡◌}
use mathlib.Core.List.{List}
use lib.ListN.{length}
use Rattle.part_layout.specs.Log.{Head}
use Rattle.part_rows.specs.Table.{Table, Only}
use Rattle.part_measures.specs.Heads.{head_row}
use Rattle.reader.specs.Records.{measure_width}
use Rattle.part_ends.proofs.Closing.{Going}
use Rattle.part_ends.proofs.close_abc_volta_spans.Given as goal

abbrev pub invariant-loop-i : goal.invariant-loop-i
invariant-loop-i l =
    (length l.store ≡ length l.initial.store) × Only l.at (l.at + measure_width * l.n) l.initial.store l.store × ((heads : List Head) → Table head_row measure_width l.initial.store l.at heads → length heads ≡ l.n → Going l.store l.at l.n l.i l.span heads)
