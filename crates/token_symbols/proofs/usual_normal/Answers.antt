-- `token_symbols::usual_normal` meets its contract.
use borrow.Author.Tests.{ne_eqb}
use Rattle.standard.specs.Tuplets.{usual_normal}
use Rattle.reader.specs.Tuplets.{normal_for, or_one_less}
use Rattle.token_symbols.proofs.usual_normal.Goals as goal

pub returns-in_default : goal.returns-in_default
unfolding normal_for or_one_less usual_normal
returns-in_default c =
    let n = c.in_default.in_default-own.rest in
    rw (ne_eqb _ 2 n.0.0.1, ne_eqb _ 4 n.1, usual_normal) (rw (ne_eqb _ 3 n.0.1))
