-- `lyric_lines::sing_syllable` meets its contract.
use Rattle.lyrics.specs.Sheet.{with_count}
use Rattle.lyric_lines.proofs.Words.{stops_inside, sung_syllable}
use Rattle.lyric_lines.proofs.sing_syllable.Goals as goal

pub append_row-count-requires : goal.append_row-count-requires
append_row-count-requires c = (c.requires.0, c.requires.2, c.requires.3)

pub taken-requires : goal.taken-requires
taken-requires c =
    let a = c.args in
    let m = c.append_row-count in
    (stops_inside _ (with_count a.sheet m.result) m.ensures.kept, c.requires.1.0)

pub returns : goal.returns
returns c =
    let a = c.args in
    sung_syllable a.edition a.scratch.now a.sheet a.verse a.place _ _ _ a.syllable (rw c.code_of.ensures at c.append_row-count.ensures) c.taken.ensures
