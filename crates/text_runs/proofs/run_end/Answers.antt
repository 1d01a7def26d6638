-- `text_runs::run_end` meets its contract: the line's end is the end of the part.
use mathlib.Core.Path.{◌∙◌}
use lib.Dec.{eqb}
use borrow.Author.Rules.{rules}
use Rattle.text_runs.proofs.Ends.{end_in_line}
use Rattle.text_runs.proofs.run_end.Goals as goal

pub returns : goal.returns
returns c = c.end_while.ensures (λ x. eqb x c.args.b) (λ x r e. search rules) ∙ end_in_line (λ x. eqb x c.args.b) c.args.line.now c.args.at
