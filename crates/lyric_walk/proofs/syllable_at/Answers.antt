-- `lyric_walk::syllable_at` meets its contract.
use mathlib.Core.Path.{subst}
use lib.ListN.{length}
use Rattle.lyrics.specs.Sheet.{RowRead}
use Rattle.lyric_walk.specs.Walks.{found_of, InText}
use Rattle.lyric_walk.proofs.syllable_at.Goals as goal

pub returns : goal.returns
returns c =
    let a = c.args in
    subst (λ (r : RowRead). InText (length a.text.now) (found_of r a.held) c.in_text.result) c.get_link-row.ensures.row (rw c.found_of.ensures at c.in_text.ensures)
