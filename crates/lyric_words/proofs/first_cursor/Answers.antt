-- `lyric_words::first_cursor` meets its contract.
use Rattle.lyric_words.proofs.Tokens.{first_start}
use Rattle.lyric_words.proofs.first_cursor.Goals as goal

pub returns : goal.returns
returns c = rw c.between.ensures (first_start c.args.text.now c.args.end c.args.at _ c.next_start.ensures)
