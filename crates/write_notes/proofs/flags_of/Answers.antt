-- `write_notes::flags_of` meets its contract.
use mathlib.Core.Path.{refl}
use Rattle.reader.specs.Codes.{bit}
use Rattle.write_notes.specs.Out.{is_lone}
use Rattle.write_notes.proofs.Out.{flags_are}
use Rattle.write_notes.proofs.flags_of.Goals as goal

pub returns : goal.returns
unfolding is_lone bit
returns c = flags_are _ _ _ c.one_if.ensures.0 refl
