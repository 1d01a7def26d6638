-- `tally_text::append_decimal` meets its contract: the digits that `io::decimal` writes, 20 at most.
use Prim.Native.Nat.{◌<◌}
use mathlib.Core.Path.{◌∙◌}
use native.Mathlib.Omega.{arith}
use borrow.Author.Rules.{rules}
use lib.ListN.{length-take}
use Rattle.tally_text.proofs.Texts.{called}
use Rattle.tally_text.proofs.Digits.{decimal_is, few_digits}
use Rattle.tally_text.proofs.append_decimal.Goals as goal

pub append_bytes-requires : goal.append_bytes-requires
append_bytes-requires c =
    let d = c.decimal-k in
    let m : c.args.n < 18446744073709551616 = search rules in
    omega (arith, few_digits d.result c.args.n m d.ensures.len, length-take d.result d.new.out, c.requires)

pub returns : goal.returns
returns c =
    let d = c.decimal-k.ensures in
    let m : c.args.n < 18446744073709551616 = search rules in
    called _ _ c.append_bytes.ensures.adds (d.digits ∙ decimal_is _ _ (few_digits _ _ m d.len) d.len)
