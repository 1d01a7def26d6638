-- `part_measures::note_count` meets its contract.
use native.Mathlib.Omega.{arith}
use Rattle.part_measures.specs.Heads.{note_count}
use borrow.Author.Rules.{rules}
use Rattle.part_measures.proofs.note_count.Goals as goal

pub returns : goal.returns
unfolding note_count
returns c = (omega (arith, c.get_u32-d.ensures, c.get_u32-c.ensures, c.get_u32-b.ensures, c.get_u32-a.ensures), search rules)
