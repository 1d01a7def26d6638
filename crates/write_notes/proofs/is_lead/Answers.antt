-- `write_notes::is_lead` meets its contract.
use mathlib.Core.Path.{sym, ◌∙◌}
use Rattle.write_notes.proofs.Leads.{leads_start, leads_yes, leads_no, leads_end}
use Rattle.write_notes.proofs.is_lead.Goals as goal

pub loop-row-init : goal.loop-row-init
loop-row-init c = leads_start _ _ _

pub returns-then-not-is_of_voice : goal.returns-then-not-is_of_voice
returns-then-not-is_of_voice c = leads_no _ _ _ _ c.loop-row-test.true (sym c.is_of_voice.ensures ∙ c.if-not-is_of_voice.true) ∙ c.loop-row.invariant

pub loop-row-preserved : goal.loop-row-preserved
loop-row-preserved c = leads_yes _ _ _ _ c.loop-row-test.true (sym c.is_of_voice.ensures ∙ c.if-not-is_of_voice.false) ∙ c.loop-row.invariant

pub returns : goal.returns
returns c = leads_end _ _ _ _ c.loop-row-test.false ∙ c.loop-row.invariant
