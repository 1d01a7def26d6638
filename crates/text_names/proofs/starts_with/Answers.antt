-- `text_names::starts_with` meets its contract: the library's test is `starts_with`.
use mathlib.Core.Path.{◌∙◌}
use Rattle.text_names.proofs.Texts.{pointwise_front}
use Rattle.text_names.proofs.starts_with.Goals as goal

pub returns : goal.returns
returns c = c.starts_with.ensures.value ∙ pointwise_front c.args.name.now c.args.text.now
