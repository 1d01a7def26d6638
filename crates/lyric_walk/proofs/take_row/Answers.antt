-- `lyric_walk::take_row` meets its contract.
use native.Mathlib.Omega.{arith}
use Rattle.lyric_walk.proofs.Steps.{takes_none_lem, takes_one}
use Rattle.lyric_walk.proofs.take_row.Goals as goal

pub returns-then-verse-from : goal.returns-then-verse-from
returns-then-verse-from c = takes_none_lem _ _ _ _ _ _ c.requires (λ i h e. absurd (omega (arith, e, c.if-verse-from.true)))

pub returns-then-i-ge-WINDOW : goal.returns-then-i-ge-WINDOW
returns-then-i-ge-WINDOW c = takes_none_lem _ _ _ _ _ _ c.requires (λ i h e. absurd (omega (arith, e, c.if-i-ge-WINDOW.true)))

pub returns : goal.returns
returns c =
    let a = c.args in
    takes_one a.from a.verse a.syllabic a.place _ a.places.now a.held.now c.requires (omega (arith, c.if-i-ge-WINDOW.false)) (omega (arith, c.if-verse-from.false)) _ _ c.first_place.ensures c.is_held.ensures
