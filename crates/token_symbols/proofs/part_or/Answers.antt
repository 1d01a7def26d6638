-- `token_symbols::part_or` meets its contract, by the edition and the byte behind the colon.
use mathlib.Core.Path.{◌≡◌, refl, sym, ◌∙◌}
use mathlib.Core.Bool.{true, false}
use lib.ListN.{get_or}
use Rattle.laws.proofs.Spans.{end_off}
use Rattle.standard.specs.Bytes.{is_digit}
use Rattle.reader.specs.Tuplets.{part_or}
use Rattle.token_symbols.specs.Tuplets.{number_for}
use Rattle.token_symbols.proofs.Ratios.{part_written, part_empty}
use Rattle.token_symbols.proofs.part_or.Goals as goal

pub returns-then-is_digit : goal.returns-then-is_digit
returns-then-is_digit c =
    let written : is_digit (get_or c.args.line.now c.args.at 0) ≡ true = rw (sym c.byte_at.ensures) (sym c.is_digit.ensures ∙ c.if-is_digit.true) in
    rw (c.in-Second.is, part_written c.args.default c.args.top c.args.line.now c.args.at written) c.positive-then-is_digit.ensures

pub returns-in-First : goal.returns-in-First
unfolding part_or
returns-in-First c = rw c.in-First.is c.positive.ensures

pub returns-else-is_digit : goal.returns-else-is_digit
unfolding number_for
returns-else-is_digit c =
    let e : is_digit (get_or c.args.line.now c.args.at 0) ≡ false = rw (sym c.byte_at.ensures) (sym c.is_digit.ensures ∙ c.if-is_digit.false) in
    rw (c.in-Second.is, part_empty c.args.default c.args.top c.args.line.now c.args.at e, end_off is_digit refl c.args.line.now c.args.at e)
