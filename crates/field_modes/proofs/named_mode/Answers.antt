-- `field_modes::named_mode` meets its contract. The loop's invariant: the search of what is left of the table gives the answer of the whole search.
use Prim.Native.Nat.{◌≤◌, ◌<◌}
use mathlib.Core.Path.{sym, ◌∙◌}
use mathlib.Core.List.{[]}
use native.Mathlib.Omega.{arith}
use lib.ListN.{length}
use Rattle.field_modes.specs.declared.Mode.TheVariants.{Lydian}
use Rattle.field_modes.specs.declared.ModeName.{ModeName}
use Rattle.field_modes.proofs.Names.{named_here, named_on, named_end}
use Rattle.field_modes.proofs.named_mode.Goals as goal

abbrev no_name : ModeName
no_name = record { name = []; mode = Lydian }

pub returns-then-says : goal.returns-then-says
returns-then-says c =
    let inside : c.loop-known.known-index < length c.args.names = omega (arith, c.loop-known.invariant.long) in
    sym (named_here _ _ _ no_name inside (sym c.says.ensures ∙ c.if-says.true)) ∙ c.loop-known.invariant.same

pub loop-known-preserved : goal.loop-known-preserved
loop-known-preserved c =
    let inside : c.loop-known.known-index < length c.args.names = omega (arith, c.loop-known.invariant.long) in
    record { long = c.loop-known.invariant.long; same = sym (named_on _ _ _ no_name inside (sym c.says.ensures ∙ c.if-says.false)) ∙ c.loop-known.invariant.same }

pub returns : goal.returns
returns c =
    let over : length c.args.names ≤ c.loop-known.known-index = omega (arith, c.loop-known.invariant.long) in
    sym (named_end _ _ _ over) ∙ c.loop-known.invariant.same
