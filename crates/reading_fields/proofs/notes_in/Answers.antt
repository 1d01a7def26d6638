-- `reading_fields::notes_in` meets its contract.
use native.Mathlib.Omega.{arith}
use Rattle.reading_sections.specs.Sections.{notes_in}
use Rattle.reading_fields.proofs.notes_in.Goals as goal

pub returns : goal.returns
unfolding notes_in
returns c = omega (arith, c.get_u32-first.ensures, c.get_u32-second.ensures, c.get_u32-third.ensures, c.get_u32-fourth.ensures)
