-- `write_syllables::write_window` meets its contract: verse after verse.
use Prim.Native.Nat.{◌+◌, ◌-◌}
use mathlib.Core.Path.{refl}
use native.Mathlib.Omega.{arith}
use Rattle.write_notes.proofs.Written.{begin, written_in, written_as_lem, written_on_lem, written_none, written_all}
use Rattle.lyric_walk.specs.Walks.{chain, within, window}
use Rattle.write_syllables.specs.Pieces.{pieces}
use Rattle.write_syllables.proofs.Pieces.{window_start, window_next, window_end}
use Rattle.write_syllables.proofs.write_window.Goals as goal

pub overflow_add-span : goal.overflow_add-span
overflow_add-span c = omega (arith, c.requires.2.small)

pub loop-verse-init : goal.loop-verse-init
loop-verse-init c =
    let a = c.args in
    (omega (arith, c.max-verse.ensures), refl, rw c.max-verse.ensures (written_as_lem (begin _ _) (window_start a.texts a.note a.text.now a.store.now a.log a.k a.from a.places.now a.held.now a.span c.requires.2)))

pub slice_bounds-write_place-count : goal.slice_bounds-write_place-count
slice_bounds-write_place-count c = omega (arith, (written_in c.loop-verse.invariant.2).0)

pub slice_bounds-write_place-start : goal.slice_bounds-write_place-start
slice_bounds-write_place-start c = omega (arith, (written_in c.loop-verse.invariant.2).0)

pub write_place-requires : goal.write_place-requires
write_place-requires c =
    let l = c.loop-verse in
    omega (arith, c.requires.2.low (l.verse - c.args.from) (omega (arith, c.loop-verse-test.true, c.min-end.ensures, l.invariant.0)), c.requires.0)

-- no room for a syllable
pub returns-in_err-at : goal.returns-in_err-at
returns-in_err-at c =
    let a = c.args in
    let l = c.loop-verse in
    rw c.from_residual.ensures
    (written_none l.invariant.2 c.in_err-at.ensures (pieces a.texts a.note (within (l.verse + 1) (a.from + window) (chain a.text.now a.store.now a.log a.k)))
    (window_next a.texts a.note a.text.now a.store.now a.log a.k a.from a.places.now a.held.now a.span c.requires.2 l.verse l.invariant.0 (omega (arith, c.loop-verse-test.true, c.min-end.ensures))))

pub overflow_add-at : goal.overflow_add-at
overflow_add-at c =
    let a = c.args in
    let l = c.loop-verse in
    let w = written_on_lem l.invariant.2 c.in_ok-at.ensures (window_next a.texts a.note a.text.now a.store.now a.log a.k a.from a.places.now a.held.now a.span c.requires.2 l.verse l.invariant.0 (omega (arith, c.loop-verse-test.true, c.min-end.ensures))) in
    omega (arith, w.wrote.says.1, c.well_formed)

-- a verse written
pub loop-verse-preserved : goal.loop-verse-preserved
loop-verse-preserved c =
    let a = c.args in
    let l = c.loop-verse in
    let w = written_on_lem l.invariant.2 c.in_ok-at.ensures (window_next a.texts a.note a.text.now a.store.now a.log a.k a.from a.places.now a.held.now a.span c.requires.2 l.verse l.invariant.0 (omega (arith, c.loop-verse-test.true, c.min-end.ensures))) in
    (omega arith, (written_in w).1, w)

pub returns : goal.returns
returns c =
    let a = c.args in
    let l = c.loop-verse in
    written_all l.invariant.2 (window_end a.texts a.note a.text.now a.store.now a.log a.k a.from a.places.now a.held.now a.span c.requires.2 l.verse (omega (arith, c.loop-verse-test.false, c.min-end.ensures)))
