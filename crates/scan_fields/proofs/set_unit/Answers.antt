-- `scan_fields::set_unit` meets its contract.
use mathlib.Core.Path.{refl}
use native.Mathlib.Omega.{arith}
use Rattle.reader.specs.Scan.{act, unit_on}
use Rattle.scan_states.proofs.Items.{stays}
use Rattle.scan_fields.proofs.set_unit.Goals as goal

pub returns-in-None : goal.returns-in-None
unfolding act unit_on
returns-in-None c =
    λ text s. rw (c.next_line-in-None.ensures, c.in-None.is) (record { is = stays _ _; follows = (refl, (omega arith, (omega arith, omega arith))) })

pub returns-in-Some : goal.returns-in-Some
unfolding act unit_on
returns-in-Some c =
    λ text s. rw (c.next_line.ensures, c.in-Some.is) (record { is = stays _ _; follows = (refl, (omega arith, (omega arith, omega arith))) })
