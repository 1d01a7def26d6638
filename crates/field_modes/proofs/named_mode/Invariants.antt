-- `field_modes::named_mode` meets its contract. The loop's invariant: the search of what is left of the table gives the answer of the whole search.
use mathlib.Core.Path.{◌≡◌}
use mathlib.Core.List.{map}
use lib.ListN.{length, drop}
use Rattle.standard.specs.Bytes.{lower}
use Rattle.field_modes.specs.Modes.{named_in}
use Rattle.field_modes.proofs.named_mode.Given as goal

abbrev pub invariant-loop-known : goal.invariant-loop-known
invariant-loop-known l = record {
  long : length l.known-items ≡ 9;
  same : named_in (drop l.known-index l.known-items) (map lower l.word) ≡ named_in l.fn.names (map lower l.word);
}
