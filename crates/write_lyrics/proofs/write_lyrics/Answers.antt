-- `write_lyrics::write_lyrics` meets its contract.
use mathlib.Core.Path.{sym}
use mathlib.Core.Bool.{true, false}
use mathlib.Core.List.{◌++◌}
use Rattle.write_notes.proofs.Out.{wrote_as_lem}
use Rattle.write_lyrics.proofs.Silent.{section_silent}
use Rattle.write_lyrics.proofs.write_lyrics.Goals as goal

pub returns-then-words-eq0 : goal.returns-then-words-eq0
returns-then-words-eq0 c =
    let w = c.args.words.now in
    let p = c.args.part.now in
    let none = c.if-words-eq0.true in
    wrote_as_lem c.write_none.ensures (λ i. sym (section_silent false w.text.now w.store.now w.sheet p.store.now p.tables none) i ++ sym (section_silent true w.text.now w.store.now w.sheet p.store.now p.tables none) i)

pub returns : goal.returns
returns c = c.write_sung.ensures
