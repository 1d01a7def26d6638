-- `scan_states::begin_state` meets its contract.
use mathlib.Core.Path.{refl}
use Rattle.standard.specs.Keys.{plain_key}
use Rattle.reader.specs.Scan.{begin}
use Rattle.scan_states.proofs.begin_state.Goals as goal

pub returns : goal.returns
unfolding begin plain_key
returns c = (refl, refl, refl)
