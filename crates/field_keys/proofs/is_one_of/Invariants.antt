-- `field_keys::is_one_of` meets its contract. The loop's invariant: the search of what is left of the names gives the answer of the whole search.
use mathlib.Core.Path.{◌≡◌}
use mathlib.Core.List.{map}
use lib.ListN.{length, drop}
use Rattle.laws.specs.Lists.{elem}
use Rattle.standard.specs.Bytes.{lower}
use Rattle.field_keys.specs.Passed.{texts}
use Rattle.field_keys.proofs.is_one_of.Given as goal

abbrev pub invariant-loop-name : goal.invariant-loop-name
invariant-loop-name l = record {
  long : length l.name-items ≡ 7;
  same : elem (map lower l.word) (drop l.name-index (texts l.name-items)) ≡ elem (map lower l.word) (texts l.fn.names);
}
