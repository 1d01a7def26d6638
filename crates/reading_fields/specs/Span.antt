-- Where the voltas so far have led, as the code has it: inside a span or not, or wrong.
use Rattle.std.specs.Prelude.{Bool, true, false}
use Rattle.std.proofs.Math.Option.{Option, none, some}
use Rattle.reading_fields.specs.declared.Volta.{Volta}
use Rattle.reading_fields.specs.declared.Volta.TheVariants.{Inside, Outside, Wrong}

abbrev pub span_of : Volta → Option Bool
span_of Inside = some true
span_of Outside = some false
span_of Wrong = none
