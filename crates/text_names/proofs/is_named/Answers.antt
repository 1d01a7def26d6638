-- `text_names::is_named` meets its contract: a text as long as the name begins with it where it is the name.
use mathlib.Core.Path.{◌≡◌, sym, ◌∙◌}
use mathlib.Core.List.{map}
use native.Mathlib.Omega.{arith}
use lib.ListN.{length, length-map}
use borrow.Author.Tests.{ne_eqb}
use Rattle.laws.proofs.Lists.{eq_text_length}
use Rattle.standard.specs.Bytes.{lower}
use Rattle.text_names.proofs.Texts.{starts_whole}
use Rattle.text_names.proofs.is_named.Goals as goal

pub returns-then-text-name : goal.returns-then-text-name
returns-then-text-name c = c.says.ensures ∙ starts_whole c.args.name.now (map lower c.args.text.now) (omega (arith, length-map c.args.text.now lower))

pub returns-else-text-name : goal.returns-else-text-name
returns-else-text-name c =
    let n : length c.args.name.now ≡ length (map lower c.args.text.now) → ⊥ = λ e. omega (arith, length-map c.args.text.now lower) in
    ne_eqb _ _ c.if-text-name.false ∙ sym (eq_text_length c.args.name.now (map lower c.args.text.now) n)
