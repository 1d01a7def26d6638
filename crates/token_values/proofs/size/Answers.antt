-- `token_values::size` meets its contract, by the tests at the forty values.
use Rattle.token_values.proofs.Sizes.{shifted_pos, computed_lt, computed_size}
use Rattle.token_values.proofs.size.Goals as goal

pub overflow_sub-result : goal.overflow_sub-result
overflow_sub-result c = shifted_pos c.args.value c.args.dots c.requires.0 c.requires.1

pub overflow_mul-result : goal.overflow_mul-result
overflow_mul-result c = record { fits = computed_lt c.args.value c.args.dots c.requires.0 c.requires.1 }

pub returns : goal.returns
returns c = computed_size c.args.value c.args.dots c.requires.0 c.requires.1
