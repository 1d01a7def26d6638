-- `lyric_stops::seek_back` meets its contract: the walk ends at the last note before where it began, and its distance passes over none.
use mathlib.Core.Path.{refl, sym, ap, ◌∙◌}
use native.Mathlib.Omega.{arith}
use Rattle.lyric_stops.specs.declared.Stop.{Stop}
use Rattle.lyric_stops.specs.Stops.{stops_in, back_of}
use Rattle.lyric_stops.proofs.Walks.{place_in, back_on, back_here, back_hint}
use Rattle.lyric_stops.proofs.seek_back.Goals as goal

pub loop-stops-init : goal.loop-stops-init
loop-stops-init c = refl

pub overflow_sub-place : goal.overflow_sub-place
overflow_sub-place c = place_in _ _ (sym c.is_passed.ensures ∙ c.loop-stops-test.true)

pub loop-stops-smaller : goal.loop-stops-smaller
loop-stops-smaller c = omega (arith, place_in _ _ (sym c.is_passed.ensures ∙ c.loop-stops-test.true))

pub loop-stops-preserved : goal.loop-stops-preserved
loop-stops-preserved c = sym (back_on _ _ (sym c.is_passed.ensures ∙ c.loop-stops-test.true)) ∙ c.loop-stops.invariant

pub returns : goal.returns
returns c =
    let a = c.args in
    let xs = stops_in a.scratch.now a.stops in
    let x = c.get_stop-x in
    λ hints first.
    sym (back_here xs c.loop-stops.place (sym c.is_passed.ensures ∙ c.loop-stops-test.false)) ∙ c.loop-stops.invariant
    ∙ ap (back_of xs) c.place_before-place.ensures ∙ back_hint xs a.h x.result.distance x.ensures.1 (ap (λ (y : Stop). y.distance) x.ensures.0) hints first
