-- `text_lines::trim_byte` meets its contract.
use mathlib.Core.Path.{sym, ◌∙◌}
use Rattle.text_white.specs.States.{as_white}
use Rattle.text_lines.proofs.Cleaning.{trim_plain}
use Rattle.text_lines.proofs.trim_byte.Goals as goal

pub returns-then-is_within : goal.returns-then-is_within
returns-then-is_within c =
    let a = c.args in
    λ l. trim_plain (as_white a.t.q) a.t.end a.b a.at l (sym c.is_within.ensures ∙ c.if-is_within.true)
