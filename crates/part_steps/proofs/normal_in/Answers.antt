-- `part_steps::normal_in` meets its contract, by what is written and by the meter.
use mathlib.Core.Path.{sym, ◌∙◌}
use native.Mathlib.Omega.{arith}
use Rattle.standard.specs.Tuplets.{normal_in}
use Rattle.reader.proofs.Tuplets.{meter_stays}
use Rattle.part_steps.proofs.normal_in.Goals as goal

pub returns-then-normal-ne-BY_METER : goal.returns-then-normal-ne-BY_METER
returns-then-normal-ne-BY_METER c = let n = c.if-normal-ne-BY_METER.true in sym (meter_stays (c.args.top, c.args.bottom) c.args.normal (omega arith))

pub returns-then-is_compound : goal.returns-then-is_compound
unfolding normal_in
returns-then-is_compound c = rw (c.if-normal-ne-BY_METER.false, sym c.is_compound.ensures ∙ c.if-is_compound.true)

pub returns-else-is_compound : goal.returns-else-is_compound
unfolding normal_in
returns-else-is_compound c = rw (c.if-normal-ne-BY_METER.false, sym c.is_compound.ensures ∙ c.if-is_compound.false)
