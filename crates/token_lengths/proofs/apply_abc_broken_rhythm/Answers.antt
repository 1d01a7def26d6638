-- `token_lengths::apply_abc_broken_rhythm` meets its contract.
use Rattle.standard.specs.Lengths.{dotted, halved}
use Rattle.token_lengths.specs.Values.{broken_length}
use Rattle.token_lengths.proofs.apply_abc_broken_rhythm.Goals as goal

pub returns-then-lengthen : goal.returns-then-lengthen
unfolding broken_length dotted
returns-then-lengthen c = rw (c.sum_up_to.ensures, c.in-Written.is, c.if-lengthen.true)

pub returns-then-lengthen-2 : goal.returns-then-lengthen-2
unfolding broken_length dotted
returns-then-lengthen-2 c = rw (c.sum_up_to-then-lengthen-2.ensures, c.in-WholeBar.is, c.if-lengthen-2.true)

pub returns-else-lengthen : goal.returns-else-lengthen
unfolding broken_length halved
returns-else-lengthen c = rw (c.sum_up_to-in-Written.ensures, c.in-Written.is, c.if-lengthen.false)

pub returns-else-lengthen-2 : goal.returns-else-lengthen-2
unfolding broken_length
returns-else-lengthen-2 c = rw (c.in-WholeBar.is, c.if-lengthen-2.false)
