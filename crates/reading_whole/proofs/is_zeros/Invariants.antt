-- `reading_whole::is_zeros` meets its contract: what is passed and what is still to come is all.
use mathlib.Core.Path.{◌≡◌}
use mathlib.Core.Bool.{◌&&◌}
use lib.ListN.{drop}
use Rattle.reading_whole.specs.Whole.{is_zeros}
use Rattle.reading_whole.proofs.is_zeros.Given as goal

abbrev pub invariant-loop-byte : goal.invariant-loop-byte
invariant-loop-byte l = (l.zero && is_zeros (drop l.byte-index l.bytes)) ≡ is_zeros l.bytes
