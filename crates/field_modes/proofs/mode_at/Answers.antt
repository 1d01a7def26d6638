-- `field_modes::mode_at` meets its contract: a mode that is named, or that of a lone m.
use mathlib.Core.Path.{sym, ◌∙◌}
use Rattle.field_modes.proofs.Names.{mode_named, mode_unnamed}
use Rattle.field_modes.proofs.mode_at.Goals as goal

pub returns-in-Some : goal.returns-in-Some
returns-in-Some c = mode_named _ _ (sym c.named_mode.ensures ∙ c.in-Some.is)

pub returns-in-None : goal.returns-in-None
returns-in-None c =
    rw (sym c.is_lone_m.ensures ∙ c.if-is_lone_m.true) at (mode_unnamed c.args.word.now (sym c.named_mode.ensures ∙ c.in-None.is))

pub returns-in-None-2 : goal.returns-in-None-2
returns-in-None-2 c =
    rw (sym c.is_lone_m.ensures ∙ c.if-is_lone_m.false) at (mode_unnamed c.args.word.now (sym c.named_mode.ensures ∙ c.in-None.is))
