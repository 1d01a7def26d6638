-- THE NUMBERS OF BEAMS: those of the reader's (`beam_code`).
use Rattle.std.specs.Prelude.{ℕ}
use Rattle.part_rows.specs.declared.Beam.{Beam}

abbrev pub number_of : Beam → ℕ
number_of Beam.Unbeamed = 0
number_of Beam.Begins = 1
number_of Beam.Continues = 2
number_of Beam.Ends = 3
