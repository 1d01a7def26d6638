-- `token_suffixes::halvings` meets its contract.
use native.Mathlib.Omega.{arith}
use Rattle.token_suffixes.proofs.Suffixes.{too_many, not_too_many}
use Rattle.token_suffixes.proofs.halvings.Goals as goal

pub overflow_sub-count : goal.overflow_sub-count
overflow_sub-count c = omega (arith, c.run_end-end.ensures)

pub returns-then-count-gt31 : goal.returns-then-count-gt31
returns-then-count-gt31 c = let a = c.args in too_many a.num a.line.now a.at c.run_end-end.result c.run_end-end.ensures c.if-count-gt31.true

pub overflow_cast-result : goal.overflow_cast-result
overflow_cast-result c = omega (arith, c.if-count-gt31.false)

pub overflow_shl-result : goal.overflow_shl-result
overflow_shl-result c = omega (arith, c.if-count-gt31.false)

pub returns : goal.returns
returns c = let a = c.args in not_too_many a.num a.line.now a.at c.run_end-end.result c.run_end-end.ensures c.if-count-gt31.false
