-- `part_sizing::made_by` meets its contract. The invariant: with the items to come it is what the part's music makes.
use mathlib.Core.Path.{◌≡◌}
use lib.ListN.{drop}
use Rattle.reader.specs.Steps.{items_of}
use Rattle.capacity.specs.Music.{music_of}
use Rattle.scan_table.specs.Rows.{items_in}
use Rattle.part_sizing.specs.Counting.{made_of, more}
use Rattle.part_sizing.proofs.made_by.Given as goal

abbrev pub invariant-loop-i : goal.invariant-loop-i
invariant-loop-i l = more l.q (music_of (items_of l.part (drop l.i (items_in l.text l.scratch l.n)))) ≡ made_of (music_of (items_of l.part (items_in l.text l.scratch l.n)))
