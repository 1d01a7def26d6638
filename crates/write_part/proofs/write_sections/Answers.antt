-- `write_part::write_sections` meets its contract.
use mathlib.Core.Path.{sym, ◌∙◌}
use native.Mathlib.Omega.{arith}
use Rattle.write_part.proofs.write_sections.Goals as goal

pub is_lead-requires : goal.is_lead-requires
is_lead-requires c = let i = c.requires.0 in omega (arith, i.notes_in_lem, i.all_notes_lem)

-- stands here so that an edit which says `true` is refused for this fact
pub invariant_of-part-2-clause-lead_is : goal.invariant_of-part-2-clause-lead_is
invariant_of-part-2-clause-lead_is c = sym c.if-is_lead.false ∙ c.is_lead.ensures
