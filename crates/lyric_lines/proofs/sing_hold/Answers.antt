-- `lyric_lines::sing_hold` meets its contract.
use Rattle.lyrics.specs.Sheet.{with_count}
use Rattle.lyric_lines.proofs.Words.{stops_inside, sung_hold}
use Rattle.lyric_lines.proofs.sing_hold.Goals as goal

pub taken-requires : goal.taken-requires
taken-requires c =
    let a = c.args in
    let m = c.put_hold-count in
    (stops_inside _ (with_count a.sheet m.result) m.ensures.kept, c.requires.1.0)

pub returns : goal.returns
returns c =
    let a = c.args in
    sung_hold a.edition a.scratch.now a.sheet a.verse a.place _ _ _ c.put_hold-count.ensures c.taken.ensures
