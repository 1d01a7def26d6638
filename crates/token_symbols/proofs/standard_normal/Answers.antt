-- `token_symbols::standard_normal` meets its contract, number by number.
use borrow.Author.Tests.{ne_eqb}
use Rattle.standard.specs.Tuplets.{usual_normal, default_normal}
use Rattle.reader.specs.Tuplets.{normal_for, or_one_less}
use Rattle.token_symbols.proofs.standard_normal.Goals as goal

pub returns-in_default : goal.returns-in_default
unfolding normal_for or_one_less default_normal usual_normal
returns-in_default c =
    let n = c.in_default.in_default-own.rest in
    rw (ne_eqb _ 5 n.0.0.0.0.1, ne_eqb _ 7 n.0.0.1, ne_eqb _ 9 n.1, default_normal) (rw (ne_eqb _ 6 n.0.0.0.1) (rw (ne_eqb _ 8 n.0.1) c.usual_normal.ensures))
