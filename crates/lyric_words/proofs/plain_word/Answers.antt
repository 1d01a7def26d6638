-- `lyric_words::plain_word` meets its contract.
use mathlib.Core.Path.{ap, ◌∙◌}
use Prim.Native.Nat.{ℕ, ◌<◌}
use native.Mathlib.Omega.{arith}
use lib.ListN.{get_or}
use Rattle.laws.proofs.Parts.{end_in_le, end_in_stops}
use Rattle.lyric_spans.specs.Spans.{is_hyphen}
use Rattle.lyric_words.proofs.Tokens.{plain_skip, plain_first}
use Rattle.lyric_words.proofs.plain_word.Goals as goal

pub returns-then-next-word : goal.returns-then-next-word
returns-then-next-word c =
    let a = c.args in
    rw c.between.ensures (plain_skip a.text.now a.at a.word c.requires.0 c.requires.1 _ c.hyphens_end-next.ensures c.if-next-word.true)

pub read_syllable-requires : goal.read_syllable-requires
read_syllable-requires c =
    let a = c.args in
    let p = c.requires in
    let e = c.hyphens_end-next.ensures in
    let low = end_in_le is_hyphen a.text.now a.at a.word (omega arith) in
    let h : c.hyphens_end-next.result < a.word = omega (arith, e, low, c.if-next-word.false) in
    (h, p.1, ap (λ (k : ℕ). is_hyphen (get_or a.text.now k 0)) e ∙ end_in_stops is_hyphen a.text.now a.at a.word p.1 (omega (arith, e, h)))

pub returns : goal.returns
returns c =
    let a = c.args in
    let p = c.requires in
    let e = c.hyphens_end-next.ensures in
    let low = end_in_le is_hyphen a.text.now a.at a.word (omega arith) in
    plain_first a.text.now a.at a.word p.0 p.1 _ e (omega (arith, e, low, c.if-next-word.false)) _ c.read_syllable.ensures
