-- `reading_fields::note_is_fine` meets its contract.
use mathlib.Core.Path.{refl}
use Rattle.reading_fields.specs.Codes.{is_note}
use Rattle.reading_fields.proofs.note_is_fine.Goals as goal

pub returns : goal.returns
unfolding is_note
returns c = refl
