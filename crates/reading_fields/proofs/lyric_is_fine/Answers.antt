-- `reading_fields::lyric_is_fine` meets its contract.
use Rattle.reading_fields.specs.Codes.{is_lyric}
use Rattle.reading_fields.proofs.lyric_is_fine.Goals as goal

pub returns : goal.returns
unfolding is_lyric
returns c = rw c.get_u32-note.ensures
