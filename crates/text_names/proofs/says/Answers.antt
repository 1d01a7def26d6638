-- `text_names::says` meets its contract. The loop's invariant: what is left of the comparison from i on is the whole.
use Prim.Native.Nat.{◌≤◌}
use mathlib.Core.Path.{refl, sym, ◌∙◌}
use mathlib.Core.List.{map}
use native.Mathlib.Omega.{arith}
use borrow.Author.Rules.{rules}
use lib.ListN.{length, length-map}
use Rattle.laws.proofs.Lists.{starts_with_end}
use Rattle.standard.specs.Bytes.{lower}
use Rattle.text_names.proofs.Texts.{starts_short, starts_on, starts_off, lower_at}
use Rattle.text_names.proofs.says.Goals as goal

pub returns-then-text-name : goal.returns-then-text-name
returns-then-text-name c = sym (starts_short c.args.name.now (map lower c.args.text.now) (omega (arith, length-map c.args.text.now lower)))

pub loop-i-init : goal.loop-i-init
loop-i-init c = refl

pub returns-then-name-i : goal.returns-then-name-i
returns-then-name-i c =
    let h : length c.args.name.now ≤ length (map lower c.args.text.now) = omega (arith, length-map c.args.text.now lower) in
    sym (starts_off _ _ _ h c.loop-i-test.true (λ e. c.if-name-i.true (e ∙ lower_at c.args.text.now c.loop-i.i ∙ search rules))) ∙ c.loop-i.invariant

pub loop-i-preserved : goal.loop-i-preserved
loop-i-preserved c =
    let h : length c.args.name.now ≤ length (map lower c.args.text.now) = omega (arith, length-map c.args.text.now lower) in
    sym (starts_on _ _ _ h c.loop-i-test.true (c.if-name-i.false ∙ search rules ∙ sym (lower_at c.args.text.now c.loop-i.i))) ∙ c.loop-i.invariant

pub returns : goal.returns
returns c =
    let over : length c.args.name.now ≤ c.loop-i.i = omega arith in
    sym (starts_with_end c.args.name.now _ _ over) ∙ c.loop-i.invariant
