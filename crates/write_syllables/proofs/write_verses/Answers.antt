-- `write_syllables::write_verses` meets its contract: window after window.
use Prim.Native.Nat.{◌+◌}
use mathlib.Core.Path.{refl}
use native.Mathlib.Omega.{arith}
use borrow.Author.Rules.{rules}
use Rattle.write_notes.proofs.Written.{begin, written_in, written_as_lem, written_on_lem, written_none, written_all}
use Rattle.lyric_walk.specs.Walks.{chain, within, window}
use Rattle.lyric_walk.proofs.Steps.{clear}
use Rattle.write_syllables.specs.Pieces.{pieces}
use Rattle.write_syllables.proofs.Pieces.{verses_end, chain_start, chain_next, chain_end}
use Rattle.write_syllables.proofs.write_verses.Invariants.{past}
use Rattle.write_syllables.proofs.write_verses.Goals as goal

pub loop-from-init : goal.loop-from-init
loop-from-init c =
    let a = c.args in
    (search rules, refl, refl, written_as_lem (begin _ _) (chain_start a.texts a.note a.text.now a.store.now a.log a.k past (omega arith) (λ j. omega (arith, c.type_inv.store j))))

pub gather-span-requires : goal.gather-span-requires
gather-span-requires c = (c.requires, clear)

pub slice_bounds-write_window-count : goal.slice_bounds-write_window-count
slice_bounds-write_window-count c = omega (arith, (written_in c.loop-from.invariant.3).0)

pub slice_bounds-write_window-start : goal.slice_bounds-write_window-start
slice_bounds-write_window-start c = omega (arith, (written_in c.loop-from.invariant.3).0)

pub write_window-requires : goal.write_window-requires
write_window-requires c = (c.requires, omega (arith, c.loop-from.invariant.0), c.gather-span.ensures)

-- no room for a window
pub returns-in_err-at : goal.returns-in_err-at
returns-in_err-at c =
    let a = c.args in
    let l = c.loop-from in
    rw c.from_residual.ensures
    (written_none l.invariant.3 c.in_err-at.ensures (pieces a.texts a.note (within (l.from + window) past (chain a.text.now a.store.now a.log a.k)))
    (chain_next a.texts a.note a.text.now a.store.now a.log a.k l.from (l.from + window) past (omega arith) (omega (arith, c.loop-from-test.true, l.invariant.1))))

pub overflow_add-at : goal.overflow_add-at
overflow_add-at c =
    let a = c.args in
    let l = c.loop-from in
    let w = written_on_lem l.invariant.3 c.in_ok-at.ensures (chain_next a.texts a.note a.text.now a.store.now a.log a.k l.from (l.from + window) past (omega arith) (omega (arith, c.loop-from-test.true, l.invariant.1))) in
    omega (arith, w.wrote.says.1, c.well_formed)

pub overflow_add-from : goal.overflow_add-from
overflow_add-from c = omega (arith, c.loop-from.invariant.0)

-- no verse above the window
pub returns-then-span-from : goal.returns-then-span-from
returns-then-span-from c =
    let a = c.args in
    let l = c.loop-from in
    let w = written_on_lem l.invariant.3 c.in_ok-at.ensures (chain_next a.texts a.note a.text.now a.store.now a.log a.k l.from (l.from + window) past (omega arith) (omega (arith, c.loop-from-test.true, l.invariant.1))) in
    written_all w (verses_end a.texts a.note a.text.now a.store.now a.log a.k l.from _ _ _ c.gather-span.ensures (l.from + window) past c.if-span-from.true)

pub overflow_add-from-in-loop-from : goal.overflow_add-from-in-loop-from
overflow_add-from-in-loop-from c = omega (arith, c.loop-from.invariant.0)

pub loop-from-smaller : goal.loop-from-smaller
loop-from-smaller c = omega (arith, c.loop-from-test.true)

-- a window written
pub loop-from-preserved : goal.loop-from-preserved
loop-from-preserved c =
    let a = c.args in
    let l = c.loop-from in
    let w = written_on_lem l.invariant.3 c.in_ok-at.ensures (chain_next a.texts a.note a.text.now a.store.now a.log a.k l.from (l.from + window) past (omega arith) (omega (arith, c.loop-from-test.true, l.invariant.1))) in
    (omega (arith, c.loop-from-test.true, l.invariant.1), omega (arith, l.invariant.1), (written_in w).1, w)

pub returns : goal.returns
returns c =
    let a = c.args in
    written_all c.loop-from.invariant.3 (chain_end a.texts a.note a.text.now a.store.now a.log a.k c.loop-from.from past (omega (arith, c.loop-from-test.false)))
