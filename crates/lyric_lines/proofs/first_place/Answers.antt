-- `lyric_lines::first_place` meets its contract.
use mathlib.Core.Path.{refl}
use Rattle.lyric_lines.proofs.first_place.Goals as goal

pub returns : goal.returns
returns c = record { note = c.note_from-note.ensures; before = refl; reached = refl }
