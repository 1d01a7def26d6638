-- `reading_bars::has_pass` meets its contract.
use mathlib.Core.Path.{refl}
use Rattle.reading_walk.specs.Walk as walk
use Rattle.reading_bars.proofs.has_pass.Goals as goal

pub returns : goal.returns
unfolding walk.has_pass
returns c = refl
