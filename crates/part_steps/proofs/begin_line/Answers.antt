-- `part_steps::begin_line` meets its contract.
use Rattle.part_steps.proofs.Measures.{opens_first, goes_on_lem}
use Rattle.part_steps.proofs.begin_line.Goals as goal

pub returns-then-counts-eq0 : goal.returns-then-counts-eq0
returns-then-counts-eq0 c =
    let a = c.args in
    let h = opens_first {t = a.t} {s = a.store.now} {r = a.r} a.unit a.top a.bottom c.requires.0 c.requires.1 c.if-counts-eq0.true _ (rw c.from-left.ensures at c.put_measure.ensures) _ c.new_line.ensures in
    record { simulates = h.0; some_measure = h.1 }

pub returns : goal.returns
returns c =
    let a = c.args in
    let h = goes_on_lem {t = a.t} {s = a.store.now} {r = a.r} a.unit a.top a.bottom c.if-counts-eq0.false _ c.new_line-2.ensures in
    record { simulates = h.0; some_measure = h.1 }
