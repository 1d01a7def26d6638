-- THE NUMBERS OF VOLTAS: those of the reader's (`volta_code`), but for none.
use Rattle.std.specs.Prelude.{ℕ}
use Rattle.part_measures.specs.declared.Volta.{Volta}

abbrev pub number_of : Volta → ℕ
number_of Volta.Begins = 1
number_of Volta.Ends = 2
number_of Volta.Alone = 3
