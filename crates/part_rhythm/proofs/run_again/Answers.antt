-- `part_rhythm::run_again` meets its contract.
use Prim.Native.Nat.{◌+◌, ◌*◌}
use mathlib.Core.Path.{◌∙◌}
use Rattle.part_rows.specs.Encoded.{note_row_width}
use Rattle.part_registers.specs.Notes.{run_again}
use Rattle.part_rhythm.specs.Rhythm.{again_store}
use Rattle.part_rhythm.proofs.run_again.Goals as goal

pub returns : goal.returns
returns c =
    let a = c.args in
    let place = a.at + note_row_width * a.i in
    let w = c.get_written-w.ensures in
    record {
      value = c.update_abc_beam_run.ensures ∙ (λ j. run_again a.run (w j).kind (w j).value);
      store_after = c.beam_again.ensures ∙ (λ j. again_store a.store.now place a.run (w j).kind (w j).value);
    }
