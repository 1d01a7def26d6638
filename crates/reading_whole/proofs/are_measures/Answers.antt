-- `reading_whole::are_measures` meets its contract: so far the measures below i are tested, their notes taken and their voltas followed.
use mathlib.Core.Path.{◌≡◌, sym, ap, ◌∙◌}
use mathlib.Core.Bool.{◌&&◌}
use native.Mathlib.Omega.{arith}
use borrow.Author.Rules.{rules}
use Rattle.reader.specs.Records.{measure_width}
use Rattle.reading_sections.specs.Sections.{record_at}
use Rattle.reading_fields.specs.Span.{span_of}
use Rattle.reading_whole.specs.Whole.{every, is_measure, voltas, is_closed}
use Rattle.reading_whole.specs.Given.{measures_fine}
use Rattle.reading_whole.proofs.Records.{taken_none, taken_more, taken_over, taken_all}
use Rattle.reading_whole.proofs.Bytes.{voltas_none, voltas_more}
use Rattle.reading_whole.proofs.are_measures.Goals as goal

pub loop-i-init : goal.loop-i-init
loop-i-init c = (search rules, taken_none, sym (voltas_none _ _))

pub returns-then-left-own : goal.returns-then-left-own
unfolding measures_fine
returns-then-left-own c =
    let a = c.args in
    taken_over (every (λ i. is_measure a.reading.now (record_at measure_width a.at i)) a.count && is_closed (voltas a.reading.now a.at a.count)) _ _
    c.loop-i.invariant.1 c.notes_in-own.ensures c.loop-i-test.true c.if-left-own.true

pub loop-i-preserved : goal.loop-i-preserved
loop-i-preserved c =
    let l = c.loop-i in (
      search rules,
      taken_more _ _ l.invariant.1 c.measure_is_fine-fine.ensures c.notes_in-own.ensures c.if-left-own.false,
      voltas_more _ _ _ l.invariant.2 c.volta_step-volta.ensures,
    )

pub returns : goal.returns
unfolding measures_fine
returns c =
    let l = c.loop-i in
    let e = taken_all _ l.invariant.0 c.loop-i-test.false l.invariant.1 in
    let i : l.i ≡ c.args.count = omega (arith, l.invariant.0, c.loop-i-test.false) in
    let v : is_closed (span_of l.volta) ≡ is_closed (voltas _ _ _) = ap is_closed l.invariant.2 in
    λ j. e.0 j && (c.is_closed.ensures ∙ rw i at v) j && e.1 j
