-- `write_lyrics::write_none` meets its contract: two counts.
use native.Mathlib.Omega.{arith}
use Rattle.store_sections.proofs.Writes.{in_store, next_to, next_none, none}
use Rattle.write_lyrics.proofs.write_none.Goals as goal

pub returns-in_err-at : goal.returns-in_err-at
returns-in_err-at c = rw c.from_residual.ensures (none c.in_err-at.ensures _)

pub slice_bounds-write_u32-count : goal.slice_bounds-write_u32-count
slice_bounds-write_u32-count c = omega (arith, (in_store c.in_ok-at.ensures).0)

pub slice_bounds-write_u32-start : goal.slice_bounds-write_u32-start
slice_bounds-write_u32-start c = omega (arith, (in_store c.in_ok-at.ensures).0)

pub returns-in_err-m : goal.returns-in_err-m
returns-in_err-m c = rw c.from_residual-in_err-m.ensures (next_none c.in_ok-at.ensures c.in_err-m.ensures)

pub overflow_add-result : goal.overflow_add-result
overflow_add-result c = omega (arith, (next_to c.in_ok-at.ensures c.in_ok-m.ensures).says.1, c.well_formed)

pub returns : goal.returns
returns c = next_to c.in_ok-at.ensures c.in_ok-m.ensures
