-- `lyric_items::line_of` meets its contract.
use borrow.Author.Rules.{rules}
use mathlib.Core.Path.{refl}
use Rattle.lyric_items.proofs.line_of.Goals as goal

pub returns : goal.returns
returns c = record { start = refl; verse = refl; low = refl; high = refl; near = search rules }
