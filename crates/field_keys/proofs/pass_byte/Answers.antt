-- `field_keys::pass_byte` meets its contract: each field is a callee's answer.
use lib.Dec.{eqb}
use Rattle.field_keys.specs.Passed.{pass_byte}
use Rattle.field_keys.proofs.Walks.{first_here}
use Rattle.field_keys.proofs.pass_byte.Goals as goal

pub returns : goal.returns
unfolding pass_byte
returns c =
    rw (c.with_byte.ensures, c.then_some.ensures, c.first_found.ensures, c.first_found-2.ensures)
    (rw (first_here (eqb c.args.c 109) c.args.p.name))
