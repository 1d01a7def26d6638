-- `lyric_lines::taken` meets its contract.
use mathlib.Core.Path.{refl}
use Rattle.lyric_lines.proofs.taken.Goals as goal

pub returns : goal.returns
returns c = record { note = c.note_from-next.ensures; before = refl; reached = refl }
