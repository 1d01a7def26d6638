-- `lyric_words::settle` meets its contract.
use native.Mathlib.Omega.{arith}
use Rattle.lyric_words.proofs.Tokens.{settle_in, settle_past}
use Rattle.lyric_words.proofs.settle.Goals as goal

pub returns-then-from : goal.returns-then-from
returns-then-from c =
    let a = c.args in
    let p = c.requires in
    settle_in a.text.now a.end a.from p.0 p.1 c.if-from.true

pub word_start-requires : goal.word_start-requires
word_start-requires c = (c.requires.1.high, c.requires.2)

pub returns : goal.returns
returns c =
    let a = c.args in
    let p = c.requires in
    let left = c.if-from.false in
    rw c.between.ensures (settle_past a.text.now a.end a.from p.0 p.1 (λ h. absurd (omega arith)) _ c.word_start.ensures)
