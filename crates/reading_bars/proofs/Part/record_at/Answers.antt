-- `reading_bars::Part::record_at` meets its contract.
use mathlib.Core.Path.{refl}
use native.Mathlib.Omega.{arith}
use Rattle.reading_bars.proofs.Spans.{record_in}
use Rattle.reading_bars.proofs.Part.record_at.Goals as goal

pub overflow_add-result : goal.overflow_add-result
overflow_add-result c = omega (arith, record_in _ _ _ _ c.args.self.now.here c.requires, c.well_formed)

pub overflow_mul-result : goal.overflow_mul-result
overflow_mul-result c = omega (arith, record_in _ _ _ _ c.args.self.now.here c.requires, c.well_formed)

pub overflow_add-result-2 : goal.overflow_add-result-2
overflow_add-result-2 c = omega (arith, record_in _ _ _ _ c.args.self.now.here c.requires, c.well_formed)

pub returns : goal.returns
returns c = (refl, record_in _ _ _ _ c.args.self.now.here c.requires)
