-- The options of code as the options that the standard and the reader speak of.
use Rattle.std.specs.Prelude.{Option, Some, None}
use Rattle.std.proofs.Math.Option as maths

abbrev pub option : {A : Type 0} → Option A → maths.Option A
option None = maths.none
option (Some x) = maths.some x
