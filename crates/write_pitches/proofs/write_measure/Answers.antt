-- `write_pitches::write_measure` meets its contract.
use mathlib.Core.Path.{sym, ◌∙◌}
use native.Mathlib.Omega.{arith}
use Rattle.write_notes.proofs.Out.{wrote_as_lem}
use Rattle.write_pitches.proofs.Leads.{lead_run}
use Rattle.write_pitches.proofs.write_measure.Goals as goal

pub is_lead-requires : goal.is_lead-requires
is_lead-requires c = c.requires.0

pub overflow_sub-end : goal.overflow_sub-end
overflow_sub-end c = omega (arith, c.requires.2)

pub write_run-requires : goal.write_run-requires
write_run-requires c = omega (arith, c.requires)

pub returns-then-is_lead : goal.returns-then-is_lead
returns-then-is_lead c =
    let e = c.requires.2 in
    wrote_as_lem c.write_run.ensures (lead_run _ _ _ _ _ e (sym c.is_lead.ensures ∙ c.if-is_lead.true))

pub returns : goal.returns
returns c = c.write_voices.ensures
