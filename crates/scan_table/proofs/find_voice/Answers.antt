-- `scan_table::find_voice` meets its contract.
use mathlib.Core.Bool.{true, false}
use Rattle.scan_table.proofs.Rows.{same_voice, search_start, search_found, search_on, search_end}
use Rattle.scan_table.proofs.find_voice.Goals as goal

pub loop-i-init : goal.loop-i-init
loop-i-init c = search_start _ _ _ _

pub returns-then-eq : goal.returns-then-eq
returns-then-eq c =
    let a = c.args in
    let l = c.loop-i in
    search_found a.text.now a.scratch.now a.n a.id.now l.i l.invariant c.loop-i-test.true (same_voice _ a.id.now _ _ true c.get_voice.ensures c.eq.ensures c.if-eq.true)

pub loop-i-preserved : goal.loop-i-preserved
loop-i-preserved c =
    let a = c.args in
    let l = c.loop-i in
    search_on a.text.now a.scratch.now a.n a.id.now l.i l.invariant c.loop-i-test.true (same_voice _ a.id.now _ _ false c.get_voice.ensures c.eq.ensures c.if-eq.false)

pub returns : goal.returns
returns c =
    let a = c.args in
    let l = c.loop-i in
    search_end a.text.now a.scratch.now a.n a.id.now l.i l.invariant l.auto.i-end c.loop-i-test.false
