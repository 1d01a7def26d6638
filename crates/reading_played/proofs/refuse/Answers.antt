-- `reading_played::refuse` meets its contract: the store is zeros.
use mathlib.Core.Path.{refl, ◌∙◌}
use Rattle.laws.proofs.Splices.{zeros_whole}
use Rattle.reading_walk.specs.Played.{refused_with}
use Rattle.reading_played.proofs.refuse.Goals as goal

pub returns : goal.returns
unfolding refused_with
returns c = record { result_value = refl; list_after = c.clear.ensures ∙ zeros_whole _ }
