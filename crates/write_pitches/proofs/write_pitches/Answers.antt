-- `write_pitches::write_pitches` meets its contract: the count, and the pitches where it ended.
use native.Mathlib.Omega.{arith}
use Rattle.store_sections.proofs.Writes.{in_store, next_to, next_none, none}
use Rattle.write_pitches.proofs.Out.{pitches_say}
use Rattle.write_pitches.proofs.write_pitches.Goals as goal

-- the count has no room
pub returns-in_err-at : goal.returns-in_err-at
returns-in_err-at c =
    let w = none c.in_err-at.ensures _ in rw c.from_residual.ensures (record { bytes_of_store = w; bytes_of_tables = (pitches_say {t = c.args.part.now.tables} w).1 })

pub slice_bounds-write_all-count : goal.slice_bounds-write_all-count
slice_bounds-write_all-count c = omega (arith, (in_store c.in_ok-at.ensures).0)

pub slice_bounds-write_all-start : goal.slice_bounds-write_all-start
slice_bounds-write_all-start c = omega (arith, (in_store c.in_ok-at.ensures).0)

-- the pitches have none
pub returns-in_err-m : goal.returns-in_err-m
returns-in_err-m c =
    let w = next_none c.in_ok-at.ensures c.in_err-m.ensures in rw c.from_residual-in_err-m.ensures (record { bytes_of_store = w; bytes_of_tables = (pitches_say {t = c.args.part.now.tables} w).1 })

pub overflow_add-result : goal.overflow_add-result
overflow_add-result c =
    omega (arith, (next_to c.in_ok-at.ensures c.in_ok-m.ensures).says.1, c.well_formed)

-- both wrote
pub returns : goal.returns
returns c =
    let w = next_to c.in_ok-at.ensures c.in_ok-m.ensures in record { bytes_of_store = w; bytes_of_tables = (pitches_say {t = c.args.part.now.tables} w).1 }
