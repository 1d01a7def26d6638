-- `field_tonics::fifths_in` meets its contract. The loop's invariant: the search of what is left of the table gives the answer of the whole search.
use Prim.Native.Nat.{◌≤◌, ◌<◌}
use mathlib.Core.Path.{◌≡◌, sym, ◌∙◌}
use native.Mathlib.Omega.{arith}
use lib.ListN.{length, get_or}
use borrow.Author.Rules.{rules}
use Rattle.field_tonics.specs.declared.Name.TheVariants.{Empty}
use Rattle.field_tonics.specs.declared.KeyName.{KeyName}
use Rattle.field_tonics.specs.Names.{same_name}
use Rattle.field_tonics.proofs.Tables.{lookup_here, lookup_on, lookup_end}
use Rattle.field_tonics.proofs.fifths_in.Goals as goal

abbrev none : KeyName
none = record { name = Empty; fifths = 0 }

pub returns-then-eq : goal.returns-then-eq
unfolding same_name
returns-then-eq c =
    let l = c.loop-key in
    let inside : l.key-index < length c.args.names = omega (arith, l.invariant.long) in
    let same : c.eq.result ≡ same_name (get_or c.args.names l.key-index none).name c.args.name = search rules in
    sym (lookup_here _ _ _ none inside (sym same ∙ c.if-eq.true)) ∙ l.invariant.same

pub loop-key-preserved : goal.loop-key-preserved
unfolding same_name
loop-key-preserved c =
    let l = c.loop-key in
    let inside : l.key-index < length c.args.names = omega (arith, l.invariant.long) in
    let same : c.eq.result ≡ same_name (get_or c.args.names l.key-index none).name c.args.name = search rules in
    record { long = l.invariant.long; same = sym (lookup_on _ _ _ none inside (sym same ∙ c.if-eq.false)) ∙ l.invariant.same }

pub returns : goal.returns
returns c =
    let over : length c.args.names ≤ c.loop-key.key-index = omega (arith, c.loop-key.invariant.long) in
    sym (lookup_end _ _ _ over) ∙ c.loop-key.invariant.same
