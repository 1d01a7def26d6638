-- `part_append::beam_before` meets its contract.
use Rattle.part_append.proofs.Appending.{before_none, before_plain, before_first, before_later}
use native.Mathlib.Omega.{arith}
use Rattle.part_append.proofs.beam_before.Goals as goal

pub returns-then-run-eq0 : goal.returns-then-run-eq0
returns-then-run-eq0 c =
    let a = c.args in
    before_none a.store.now a.at a.place a.run a.kind a.value c.if-run-eq0.true

pub overflow_sub-i : goal.overflow_sub-i
overflow_sub-i c = omega (arith, c.requires.0 (omega arith))

pub set_note_beam-requires : goal.set_note_beam-requires
set_note_beam-requires c = omega (arith, c.requires.1, c.requires.0 (omega arith))

pub returns-then-run-eq1 : goal.returns-then-run-eq1
returns-then-run-eq1 c =
    let a = c.args in
    before_first a.store.now a.at a.place a.run a.kind a.value c.if-run-eq0.false _ c.abc_note_is_beamable.ensures c.if-abc_note_is_beamable.true c.if-run-eq1.true _ (rw c.from.ensures at c.set_note_beam.ensures)

pub set_note_beam-requires-then-abc_note_is_beamable : goal.set_note_beam-requires-then-abc_note_is_beamable
set_note_beam-requires-then-abc_note_is_beamable c = omega (arith, c.requires.1, c.requires.0 (omega arith))

pub returns-else-run-eq1 : goal.returns-else-run-eq1
returns-else-run-eq1 c =
    let a = c.args in
    before_later a.store.now a.at a.place a.run a.kind a.value c.if-run-eq0.false _ c.abc_note_is_beamable.ensures c.if-abc_note_is_beamable.true c.if-run-eq1.false _ (rw c.from-then-abc_note_is_beamable.ensures at c.set_note_beam-then-abc_note_is_beamable.ensures)

pub returns-else-abc_note_is_beamable : goal.returns-else-abc_note_is_beamable
returns-else-abc_note_is_beamable c =
    let a = c.args in
    before_plain a.store.now a.at a.place a.run a.kind a.value c.if-run-eq0.false _ c.abc_note_is_beamable.ensures c.if-abc_note_is_beamable.false
