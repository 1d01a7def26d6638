-- `write_syllables::write_piece` meets its contract.
use Rattle.lyric_walk.specs.Walks.{syllable_is}
use Rattle.write_syllables.proofs.write_piece.Goals as goal

pub returns-then-texts : goal.returns-then-texts
unfolding syllable_is
returns-then-texts c = rw c.if-texts.true c.write_text.ensures

pub returns : goal.returns
returns c = rw c.if-texts.false (c.write_record.ensures _ c.requires.1)
