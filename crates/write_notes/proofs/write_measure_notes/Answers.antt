-- `write_notes::write_measure_notes` meets its contract: voice 0, and the others if there are any.
use native.Mathlib.Omega.{arith}
use mathlib.Core.Path.{sym}
use Rattle.store_sections.proofs.Writes.{in_store, next_to, next_none, none}
use Rattle.write_notes.proofs.Out.{wrote_as_lem}
use Rattle.write_notes.proofs.Leads.{voices_first, full_measure}
use borrow.Author.Rules.{rules}
use Rattle.write_notes.proofs.write_measure_notes.Goals as goal

pub returns-in_err-at : goal.returns-in_err-at
returns-in_err-at c =
    let a = c.args in
    rw c.from_residual.ensures (wrote_as_lem (none c.in_err-at.ensures _) (sym (voices_first a.store.now a.place a.k)))

pub returns-then-at-k : goal.returns-then-at-k
returns-then-at-k c =
    let a = c.args in
    full_measure a.store.now a.place a.k _ c.in_ok-at.ensures (search rules) c.if-at-k.true

pub slice_bounds-write_overlays-count : goal.slice_bounds-write_overlays-count
slice_bounds-write_overlays-count c = omega (arith, (in_store c.in_ok-at.ensures).0)

pub slice_bounds-write_overlays-start : goal.slice_bounds-write_overlays-start
slice_bounds-write_overlays-start c = omega (arith, (in_store c.in_ok-at.ensures).0)

pub returns-in_err-m : goal.returns-in_err-m
returns-in_err-m c =
    let a = c.args in
    rw c.from_residual-in_err-m.ensures (wrote_as_lem (next_none c.in_ok-at.ensures c.in_err-m.ensures) (sym (voices_first a.store.now a.place a.k)))

pub overflow_add-result : goal.overflow_add-result
overflow_add-result c =
    omega (arith, (next_to c.in_ok-at.ensures c.in_ok-m.ensures).says.1, c.well_formed)

pub returns : goal.returns
returns c =
    let a = c.args in
    wrote_as_lem (next_to c.in_ok-at.ensures c.in_ok-m.ensures) (sym (voices_first a.store.now a.place a.k))
