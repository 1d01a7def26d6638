-- `field_keys::is_one_of` meets its contract. The loop's invariant: the search of what is left of the names gives the answer of the whole search.
use Prim.Native.Nat.{◌≤◌, ◌<◌}
use mathlib.Core.Path.{sym, ◌∙◌}
use native.Mathlib.Omega.{arith}
use lib.ListN.{length}
use Rattle.field_keys.proofs.Walks.{texts_here, texts_on, texts_end}
use Rattle.field_keys.proofs.is_one_of.Goals as goal

pub returns-then-is_named : goal.returns-then-is_named
returns-then-is_named c =
    let inside : c.loop-name.name-index < length c.args.names = omega (arith, c.loop-name.invariant.long) in
    sym (texts_here _ _ _ _ inside (sym c.is_named.ensures ∙ c.if-is_named.true)) ∙ c.loop-name.invariant.same

pub loop-name-preserved : goal.loop-name-preserved
loop-name-preserved c =
    let inside : c.loop-name.name-index < length c.args.names = omega (arith, c.loop-name.invariant.long) in
    record { long = c.loop-name.invariant.long; same = sym (texts_on _ _ _ _ inside (sym c.is_named.ensures ∙ c.if-is_named.false)) ∙ c.loop-name.invariant.same }

pub returns : goal.returns
returns c =
    let over : length c.args.names ≤ c.loop-name.name-index = omega (arith, c.loop-name.invariant.long) in
    sym (texts_end _ _ _ over) ∙ c.loop-name.invariant.same
