-- `lyric_walk::sole_syllable` meets its contract.
use Rattle.lyric_walk.proofs.Walk.{sole_none, sole_hold, sole_one}
use Rattle.lyric_walk.proofs.sole_syllable.Goals as goal

pub returns-then-k-eq0 : goal.returns-then-k-eq0
returns-then-k-eq0 c = sole_none _ _ _ _ c.if-k-eq0.true

pub returns-then-row-ne0 : goal.returns-then-row-ne0
returns-then-row-ne0 c = record { says = record { row = _; first = c.get_link-row.ensures; more = c.if-row-ne0.true } }

pub returns-in-None : goal.returns-in-None
returns-in-None c =
    let a = c.args in
    sole_hold a.text.now a.scratch.now a.log a.k _ c.get_link-row.ensures c.if-row-ne0.false c.in-None.is

pub returns-in-Some : goal.returns-in-Some
returns-in-Some c =
    let a = c.args in
    sole_one a.text.now a.scratch.now a.log a.k _ c.get_link-row.ensures c.if-row-ne0.false _ c.in-Some.is _ (rw c.found_of.ensures at c.in_text.ensures)
