-- `write_lyrics::write_texts` meets its contract: what is left of the notes that are sung gives what is left of the texts.
use Prim.Native.Nat.{◌+◌, ◌-◌}
use mathlib.Core.Path.{refl}
use native.Mathlib.Omega.{arith}
use Rattle.write_notes.proofs.Written.{begin, written_in, written_as_lem, written_on_lem, written_none, written_all}
use Rattle.lyrics.specs.Sheet.{syllables_in}
use Rattle.write_lyrics.specs.Out.{texts_out}
use Rattle.write_lyrics.proofs.Texts.{texts_all, texts_step, texts_none}
use Rattle.write_lyrics.proofs.write_texts.Goals as goal

pub loop-j-init : goal.loop-j-init
loop-j-init c = (refl, written_as_lem (begin _ _) (texts_all _ _))

pub slice_bounds-write_syllable_texts-count : goal.slice_bounds-write_syllable_texts-count
slice_bounds-write_syllable_texts-count c = omega (arith, (written_in c.loop-j.invariant.1).0)

pub slice_bounds-write_syllable_texts-start : goal.slice_bounds-write_syllable_texts-start
slice_bounds-write_syllable_texts-start c = omega (arith, (written_in c.loop-j.invariant.1).0)

pub returns-in_err-at : goal.returns-in_err-at
returns-in_err-at c =
    let l = c.loop-j in
    let a = c.args in
    let ws = syllables_in a.words.now.text.now a.words.now.store.now a.words.now.sheet in
    rw c.from_residual.ensures (written_none l.invariant.1 c.in_err-at.ensures (texts_out ws (l.j + 1) (a.sung - (l.j + 1))) (texts_step ws l.j a.sung c.loop-j-test.true))

pub overflow_add-at : goal.overflow_add-at
overflow_add-at c =
    let l = c.loop-j in
    let w = written_on_lem l.invariant.1 c.in_ok-at.ensures (texts_step _ l.j _ c.loop-j-test.true) in
    omega (arith, w.wrote.says.1, c.well_formed)

pub loop-j-preserved : goal.loop-j-preserved
loop-j-preserved c =
    let l = c.loop-j in
    let w = written_on_lem l.invariant.1 c.in_ok-at.ensures (texts_step _ l.j _ c.loop-j-test.true) in
    ((written_in w).1, w)

pub returns : goal.returns
returns c = written_all c.loop-j.invariant.1 (texts_none _ _ _ (omega (arith, c.loop-j-test.false)))
