-- `reading_bars::Part::bar_at` meets its contract.
use mathlib.Core.Path.{◌∙◌}
use Rattle.reading_bars.proofs.Part.bar_at.Goals as goal

pub returns : goal.returns
returns c =
    let volta = c.get_u8-volta.ensures in
    let passes = c.from-passes.ensures ∙ c.get_u32.ensures in
    let place = c.record_at-at.ensures.0 in
    record {
      left_is = rw (← place) c.get_u8.ensures;
      right_is = rw (← place) c.get_u8-2.ensures;
      span_is = rw (← place, ← volta, ← passes) c.span_at.ensures;
      after_is = rw (← place, ← volta, ← passes) c.span_after.ensures;
    }
