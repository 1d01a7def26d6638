-- `scan_states::tune_line` meets its contract.
use mathlib.Core.Path.{refl}
use native.Mathlib.Omega.{arith}
use Rattle.reader.specs.Scan.{act}
use Rattle.scan_states.proofs.Items.{stays}
use Rattle.scan_states.proofs.tune_line.Goals as goal

pub returns-then-st : goal.returns-then-st
unfolding act
returns-then-st c =
    λ text s. rw (c.next_line.ensures, c.if-st.true) (record { is = stays _ _; follows = (refl, (omega arith, (omega arith, omega arith))) })

pub returns : goal.returns
unfolding act
returns c = λ text s. rw (c.refuse.ensures, c.if-st.false) (record { is = refl; follows = tt })
