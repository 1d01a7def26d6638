-- `scan_states::refuse` meets its contract.
use native.Mathlib.Numerals.{add-one}
use Rattle.scan_states.proofs.refuse.Goals as goal

pub returns : goal.returns
returns c = rw (add-one c.args.st.lines)
