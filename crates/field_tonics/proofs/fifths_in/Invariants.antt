-- `field_tonics::fifths_in` meets its contract. The loop's invariant: the search of what is left of the table gives the answer of the whole search.
use mathlib.Core.Path.{◌≡◌}
use lib.ListN.{length, drop}
use Rattle.field_tonics.specs.Names.{lookup_in}
use Rattle.field_tonics.proofs.fifths_in.Given as goal

abbrev pub invariant-loop-key : goal.invariant-loop-key
invariant-loop-key l = record {
  long : length l.key-items ≡ 15;
  same : lookup_in (drop l.key-index l.key-items) l.name ≡ lookup_in l.fn.names l.name;
}
