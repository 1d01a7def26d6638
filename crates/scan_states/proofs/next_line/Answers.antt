-- `scan_states::next_line` meets its contract.
use native.Mathlib.Numerals.{add-one}
use Rattle.scan_states.proofs.next_line.Goals as goal

pub returns : goal.returns
returns c = rw (add-one c.args.st.lines)
