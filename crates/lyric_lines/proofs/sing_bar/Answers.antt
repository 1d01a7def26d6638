-- `lyric_lines::sing_bar` meets its contract.
use mathlib.Core.Path.{refl}
use Rattle.lyric_lines.proofs.sing_bar.Goals as goal

pub move_behind-requires : goal.move_behind-requires
move_behind-requires c = (c.requires.0, c.requires.1.1)

pub returns-in-First : goal.returns-in-First
returns-in-First c = rw c.in-First.is refl

pub returns-in-Second : goal.returns-in-Second
returns-in-Second c = rw c.in-Second.is c.move_behind.ensures
