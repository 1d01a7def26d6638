-- `reading_fields::measure_is_fine` meets its contract.
use mathlib.Core.Path.{refl}
use Rattle.reading_fields.specs.Codes.{is_measure}
use Rattle.reading_fields.proofs.measure_is_fine.Goals as goal

pub returns : goal.returns
unfolding is_measure
returns c = refl
