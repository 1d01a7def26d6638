-- `field_modes::is_lone_m` meets its contract, by its tests.
use mathlib.Core.Path.{◌≡◌, sym, ap, ◌∙◌}
use mathlib.Core.Bool.{not}
use mathlib.Core.List.{map}
use lib.ListN.{get_or}
use borrow.Author.Rules.{rules}
use Rattle.standard.specs.Bytes.{lower}
use Rattle.field_modes.specs.Modes.{lone_m}
use Rattle.field_modes.proofs.Words.{second_lower, lower_letter, says_m}
use Rattle.field_modes.proofs.is_lone_m.Goals as goal

pub returns-then-says : goal.returns-then-says
unfolding lone_m
returns-then-says c =
    let m = sym (says_m (map lower c.args.word.now)) ∙ sym c.says.ensures ∙ c.if-says.true in
    let second : c.byte_at.result ≡ get_or c.args.word.now 1 0 = search rules in
    rw (m, second_lower c.args.word.now, c.is_letter.ensures, second) (sym (ap not (lower_letter _)))

pub returns-else-says : goal.returns-else-says
unfolding lone_m
returns-else-says c =
    let m = sym (says_m (map lower c.args.word.now)) ∙ sym c.says.ensures ∙ c.if-says.false in
    rw (m, c.if-says.false)
