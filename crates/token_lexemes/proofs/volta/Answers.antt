-- `token_lexemes::volta` meets its contract.
use mathlib.Core.Path.{sym, ◌∙◌}
use Rattle.token_lexemes.proofs.Ending.{no_passes, passes_are_read}
use Rattle.token_lexemes.proofs.Numbered.{volta_numbered}
use Rattle.token_lexemes.proofs.volta.Goals as goal

pub returns-in_default : goal.returns-in_default
returns-in_default c =
    record { token = no_passes c.args.line.now c.args.at c.requires _ c.list_fault.ensures (sym c.parse_passes.ensures ∙ c.in_default.is); number = volta_numbered _ }

pub returns : goal.returns
returns c =
    record { token = passes_are_read c.args.line.now c.args.at c.requires _ _ _ (sym c.parse_passes.ensures ∙ c.in-Some.is); number = volta_numbered _ }
