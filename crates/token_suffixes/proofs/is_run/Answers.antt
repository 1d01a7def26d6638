-- `token_suffixes::is_run` meets its contract.
use native.Mathlib.Omega.{arith}
use Rattle.token_suffixes.specs.Suffixes.{is_run}
use Rattle.token_suffixes.proofs.is_run.Goals as goal

pub overflow_add-at : goal.overflow_add-at
overflow_add-at c = omega (arith, c.requires)

pub returns-in-First : goal.returns-in-First
unfolding is_run
returns-in-First c = rw c.in-First.is

pub returns-in-Second : goal.returns-in-Second
unfolding is_run
returns-in-Second c = rw (c.in-Second.is, c.byte_at.ensures)
