-- `lyric_stops::is_passed` meets its contract.
use borrow.Author.Tests.{eq-eqb}
use mathlib.Core.Bool.{not}
use mathlib.Core.Path.{ap, ◌∙◌}
use Rattle.lyric_stops.specs.declared.Stop.{Stop}
use Rattle.lyric_stops.specs.Stops.{is_passed, stops_in}
use Rattle.lyric_stops.proofs.Walks.{told_passed, place_none, place_note}
use Rattle.lyric_stops.proofs.is_passed.Goals as goal

pub returns-then-place-ne0 : goal.returns-then-place-ne0
returns-then-place-ne0 c =
    let a = c.args in
    c.eq.ensures ∙ told_passed _ ∙ ap (λ (x : Stop). is_passed x.kind) c.get_stop.ensures.0 ∙ place_note (stops_in a.scratch.now a.stops) a.place c.if-place-ne0.true

pub returns-else-place-ne0 : goal.returns-else-place-ne0
returns-else-place-ne0 c = ap not (eq-eqb _ _ c.if-place-ne0.false) ∙ place_none _ _ c.if-place-ne0.false
