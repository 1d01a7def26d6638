-- `lyric_words::word_token` meets its contract.
use borrow.Author.Rules.{rules}
use Rattle.lyric_words.proofs.Tokens.{word_bar, word_skip, word_hold, word_long, word_byte}
use Rattle.lyric_words.proofs.word_token.Goals as goal
use Rattle.lyric_words.proofs.word_token.Goals.{in-124, in-42, in-95}

pub returns-then-word-at-ne1 : goal.returns-then-word-at-ne1
returns-then-word-at-ne1 c =
    let a = c.args in
    word_long a.text.now a.at a.word c.requires.0 c.requires.1 c.if-word-at-ne1.true _ c.plain_word.ensures

pub returns-in_default : goal.returns-in_default
returns-in_default c =
    let a = c.args in
    word_byte a.text.now a.at a.word c.requires.0 c.requires.1 c.if-word-at-ne1.false (search rules) (search rules) (search rules) _ c.plain_word-in_default.ensures

pub returns : goal.returns
returns c =
    let a = c.args in
    let p = c.requires in
    let one = c.if-word-at-ne1.false in
    rw c.between.ensures (elim c.match-text-at.branch [
      | in-124 w ↦ rw w.token-is (word_bar a.text.now a.at a.word p.0 p.1 one w.in-124.is)
      | in-42 w ↦ rw w.token-is (word_skip a.text.now a.at a.word p.0 p.1 one w.in-42.is)
      | in-95 w ↦ rw w.token-is (word_hold a.text.now a.at a.word p.0 p.1 one w.in-95.is)
    ])
