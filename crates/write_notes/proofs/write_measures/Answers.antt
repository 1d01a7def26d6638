-- `write_notes::write_measures` meets its contract: the count, and the rows as they are.
use native.Mathlib.Omega.{arith}
use Rattle.write_notes.proofs.Out.{measures_none, measures_wrote, measures_say}
use Rattle.write_notes.proofs.write_measures.Goals as goal

pub returns-then-to-lt-COUNT : goal.returns-then-to-lt-COUNT
returns-then-to-lt-COUNT c =
    let p = c.args.part.now in
    let w = measures_none p.store.now p.tables p.within (omega arith) in record { bytes_of_store = w; bytes_of_tables = (measures_say {t = p.tables} w).1 }

pub returns-then-to-len : goal.returns-then-to-len
returns-then-to-len c =
    let p = c.args.part.now in
    let w = measures_none p.store.now p.tables p.within (omega arith) in record { bytes_of_store = w; bytes_of_tables = (measures_say {t = p.tables} w).1 }

pub returns : goal.returns
returns c =
    let p = c.args.part.now in
    let w = measures_wrote p.store.now p.tables p.within c.put_u32.ensures c.copy.ensures (omega arith) in record { bytes_of_store = w; bytes_of_tables = (measures_say {t = p.tables} w).1 }
