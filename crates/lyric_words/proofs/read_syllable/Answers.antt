-- `lyric_words::read_syllable` meets its contract: another syllable of the word follows, or none.
use mathlib.Core.Path.{ap, ◌∙◌}
use native.Mathlib.Omega.{arith}
use borrow.Author.Tests.{lt-ltb}
use Rattle.laws.proofs.Parts.{end_in_le}
use Rattle.standard.specs.Lyrics.{syllabic_of}
use Rattle.lyric_spans.specs.Spans.{no_hyphen}
use Rattle.lyric_words.proofs.Tokens.{syllable_next, syllable_last}
use Rattle.lyric_words.proofs.read_syllable.Goals as goal
use Rattle.lyric_words.proofs.read_syllable.Goals.{then-next-from, else-next-from}

pub hyphens_end-next-requires : goal.hyphens_end-next-requires
hyphens_end-next-requires c =
    let a = c.args in
    let p = c.requires in
    (omega (arith, c.piece_end-end.ensures, end_in_le no_hyphen a.text.now a.from.at a.from.word (omega arith)), p.1)

pub returns : goal.returns
returns c =
    let a = c.args in
    let p = c.requires in
    let f = a.from in
    elim c.if-next-from.branch [
      | then-next-from w ↦
          syllable_next a.text.now f.at f.word f.led f.trailed _ _ _ p.0 p.1 p.2 c.piece_end-end.ensures c.hyphens_end-next.ensures w.if-next-from.true
          (c.by_hyphens.ensures ∙ ap (syllabic_of f.led) (w.behind-is ∙ lt-ltb _ _ w.if-next-from.true))
      | else-next-from w ↦
          let left = w.if-next-from.false in
          syllable_last a.text.now f.at f.word f.led f.trailed _ _ _ p.0 p.1 p.2 c.piece_end-end.ensures c.hyphens_end-next.ensures (λ h. absurd (omega arith))
          (c.by_hyphens.ensures ∙ ap (syllabic_of f.led) w.behind-is)
    ]
