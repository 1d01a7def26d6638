-- `write_notes::write_note` meets its contract.
use native.Mathlib.Omega.{arith}
use Rattle.write_notes.proofs.Out.{length_note_out}
use Rattle.write_notes.proofs.write_note.Goals as goal

pub returns-then-to-lt-NOTE : goal.returns-then-to-lt-NOTE
returns-then-to-lt-NOTE c =
    let a = c.args in
    record { says = omega (arith, length_note_out a.store.now a.place (omega arith)) }

pub returns : goal.returns
returns c = c.put_record.ensures
