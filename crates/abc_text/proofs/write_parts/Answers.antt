-- `abc_text::write_parts` meets its contract: the count, and the parts where it ended.
use native.Mathlib.Omega.{arith}
use Rattle.store_sections.proofs.Writes.{in_store, next_to, next_none, none}
use Rattle.abc_answers.specs.Parts.{bytes_of}
use Rattle.abc_text.proofs.write_parts.Goals as goal

pub returns-in_err-at : goal.returns-in_err-at
unfolding bytes_of
returns-in_err-at c = rw c.from_residual.ensures (none c.in_err-at.ensures _)

pub slice_bounds-append_parts-count : goal.slice_bounds-append_parts-count
slice_bounds-append_parts-count c = (in_store c.in_ok-at.ensures).0

pub slice_bounds-append_parts-start : goal.slice_bounds-append_parts-start
slice_bounds-append_parts-start c = (in_store c.in_ok-at.ensures).0

pub returns-in_err-m : goal.returns-in_err-m
unfolding bytes_of
returns-in_err-m c = rw c.from_residual-in_err-m.ensures (next_none c.in_ok-at.ensures c.in_err-m.ensures)

pub overflow_add-result : goal.overflow_add-result
overflow_add-result c =
    omega (
      arith,
      (next_to c.in_ok-at.ensures c.in_ok-m.ensures).says.1,
      c.well_formed,
    )

pub returns : goal.returns
unfolding bytes_of
returns c = next_to c.in_ok-at.ensures c.in_ok-m.ensures
