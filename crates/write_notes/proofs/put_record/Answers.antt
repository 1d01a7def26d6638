-- `write_notes::put_record` meets its contract.
use native.Mathlib.Omega.{arith}
use Rattle.write_notes.proofs.Out.{note_wrote}
use Rattle.write_notes.proofs.put_record.Goals as goal

pub returns : goal.returns
returns c =
    let a = c.args in
    note_wrote a.store.now a.place _ _ c.note_start-n.ensures c.put_4.ensures c.copy_note_rest.ensures c.flags_of-flags.ensures (omega arith) (omega arith)
