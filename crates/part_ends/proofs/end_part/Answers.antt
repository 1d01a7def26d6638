-- `part_ends::end_part` meets its contract.
use mathlib.Core.Path.{sym, ◌∙◌}
use mathlib.Core.Option.{none}
use native.Mathlib.Omega.{arith}
use Rattle.part_layout.specs.Ends.{dropped}
use Rattle.part_rows.proofs.Tables.{only_then, only_wider}
use Rattle.part_ends.proofs.Closing.{length_close}
use Rattle.part_ends.proofs.end_part.Goals as goal

pub returns : goal.returns
returns c =
    let d = c.drop_empty-count.ensures in
    let k = c.close_abc_volta_spans.ensures in
    let f = c.mark_first_key.ensures in record {
      upper_bound = (d.upper_bound, only_then (only_wider k.only _ _ (omega arith) (omega (arith, d.upper_bound))) (only_wider f.only _ _ (omega arith) (omega (arith, d.upper_bound))));
      value = λ heads t h small.
          let (n, u) = d.value heads t h small in
          (n, f.table _ (k.table (dropped heads) u (sym n)) (length_close none (dropped heads) ∙ sym n));
    }
