-- `token_passes::range_bits` meets its contract.
use Rattle.token_passes.proofs.Bits.{shifts_le, shifts_bits}
use Rattle.token_passes.proofs.range_bits.Goals as goal

pub overflow_sub-result-2 : goal.overflow_sub-result-2
overflow_sub-result-2 c = shifts_le c.args.from c.args.to c.requires.0 c.requires.1 c.requires.2

pub returns : goal.returns
returns c = shifts_bits c.args.from c.args.to c.requires.0 c.requires.1 c.requires.2
