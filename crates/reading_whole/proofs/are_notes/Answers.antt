-- `reading_whole::are_notes` meets its contract: so far the notes below i are tested, and their pitches taken.
use mathlib.Core.Bool.{◌&&◌}
use borrow.Author.Rules.{rules}
use Rattle.reader.specs.Records.{note_width}
use Rattle.reading_sections.specs.Sections.{record_at}
use Rattle.reading_whole.specs.Whole.{every, is_note}
use Rattle.reading_whole.specs.Given.{notes_fine}
use Rattle.reading_whole.proofs.Records.{taken_none, taken_more, taken_over, taken_all}
use Rattle.reading_whole.proofs.are_notes.Goals as goal

pub loop-i-init : goal.loop-i-init
loop-i-init c = (search rules, taken_none)

pub returns-then-left-own : goal.returns-then-left-own
unfolding notes_fine
returns-then-left-own c =
    let a = c.args in
    taken_over (every (λ i. is_note a.reading.now (record_at note_width a.at i)) a.count) _ _ c.loop-i.invariant.1 c.get_u32-own.ensures c.loop-i-test.true c.if-left-own.true

pub loop-i-preserved : goal.loop-i-preserved
loop-i-preserved c = (search rules, taken_more _ _ c.loop-i.invariant.1 c.note_is_fine-fine.ensures c.get_u32-own.ensures c.if-left-own.false)

pub returns : goal.returns
unfolding notes_fine
returns c =
    let l = c.loop-i in
    let e = taken_all _ l.invariant.0 c.loop-i-test.false l.invariant.1 in
    λ j. e.0 j && e.1 j
