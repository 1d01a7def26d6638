-- `lyric_lines::sing_token` meets its contract.
use native.Mathlib.Omega.{arith}
use Rattle.lyric_lines.proofs.Words.{stops_inside, sung_bar, sung_skip}
use Rattle.lyric_lines.proofs.sing_token.Goals as goal

pub sing_bar-requires : goal.sing_bar-requires
sing_bar-requires c =
    let a = c.args in
    (stops_inside a.scratch.now a.sheet c.requires.0.kept, c.requires.1)

pub taken-requires : goal.taken-requires
taken-requires c =
    let a = c.args in
    (stops_inside a.scratch.now a.sheet c.requires.0.kept, c.requires.1.0)

pub sing_syllable-requires : goal.sing_syllable-requires
sing_syllable-requires c =
    let p = c.requires in
    let m = rw c.in-Syllable.is at p.2 in
    (p.0, p.1, omega (arith, m.0), omega (arith, m.1))

pub returns-in-Bar : goal.returns-in-Bar
returns-in-Bar c =
    let a = c.args in
    rw c.in-Bar.is (sung_bar a.edition a.scratch.now a.sheet a.verse a.place _ c.requires.0.kept c.sing_bar.ensures)

pub returns-in-Skip : goal.returns-in-Skip
returns-in-Skip c =
    let a = c.args in
    rw c.in-Skip.is (sung_skip a.edition a.scratch.now a.sheet a.verse a.place _ c.requires.0.kept c.taken.ensures)

pub returns-in-Hold : goal.returns-in-Hold
returns-in-Hold c = rw c.in-Hold.is c.sing_hold.ensures

pub returns-in-Syllable : goal.returns-in-Syllable
returns-in-Syllable c = rw c.in-Syllable.is c.sing_syllable.ensures
