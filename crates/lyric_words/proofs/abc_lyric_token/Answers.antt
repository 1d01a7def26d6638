-- `lyric_words::abc_lyric_token` meets its contract: a syllable of the word at the cursor, a plain word, or the first token of another.
use mathlib.Core.Path.{◌≡◌, refl, sym, ap, ◌∙◌}
use Prim.Native.Nat.{ℕ}
use native.Mathlib.Omega.{arith}
use Rattle.laws.specs.Bytes.{between}
use Rattle.laws.proofs.Parts.{end_in_ge, end_in_le}
use Rattle.reader.specs.Pieces.{white_at}
use Rattle.lyric_spans.specs.Spans.{is_plain}
use Rattle.lyric_words.proofs.Tokens.{closed_by_lem, token_in, token_first}
use Rattle.lyric_words.proofs.Plain.{token_plain}
use Rattle.lyric_words.proofs.abc_lyric_token.Goals as goal

pub read_syllable-read-requires : goal.read_syllable-read-requires
read_syllable-read-requires c =
    let p = c.requires in
    let h = c.if-from.true in
    (h, omega (arith, p.0.within, p.2), p.0.stands.piece h)

pub settle-requires : goal.settle-requires
settle-requires c =
    let a = c.args in
    let p = c.requires in
    let s = c.read_syllable-read.ensures in
    (s.gone.stands, closed_by_lem a.text.now a.end _ _ _ s.gone (record { high = p.0.within; ends = p.0.closes c.if-from.true }), p.2)

pub returns-then-from : goal.returns-then-from
returns-then-from c =
    let a = c.args in
    token_in a.text.now a.end a.from c.requires.0 _ c.read_syllable-read.ensures _ c.settle.ensures

pub plain_end-plain-requires : goal.plain_end-plain-requires
plain_end-plain-requires c = let p = c.requires in (omega (arith, p.1), p.2)

pub is_one_syllable-requires : goal.is_one_syllable-requires
is_one_syllable-requires c =
    let a = c.args in
    let p = c.requires in
    (p.1, omega (arith, c.plain_end-plain.ensures, end_in_ge is_plain a.text.now a.from.at a.end), p.2)

pub next_start-requires : goal.next_start-requires
next_start-requires c =
    let a = c.args in
    let p = c.requires in
    (omega (arith, c.plain_end-plain.ensures, end_in_le is_plain a.text.now a.from.at a.end (omega (arith, p.1))), p.2)

pub returns-then-is_one_syllable : goal.returns-then-is_one_syllable
returns-then-is_one_syllable c =
    let a = c.args in
    let p = c.requires in
    let left = c.if-from.false in
    rw c.between.ensures (token_plain a.text.now a.end p.2 a.from.at _ p.1 c.plain_end-plain.ensures (sym c.is_one_syllable.ensures ∙ c.if-is_one_syllable.true) a.from refl p.0 (λ h. absurd (omega arith)) _ c.next_start.ensures)

pub word_end-word-requires : goal.word_end-word-requires
word_end-word-requires c =
    let a = c.args in
    let p = c.requires in
    let left = c.if-from.false in
    let e : a.from.at ≡ a.from.word = omega (arith, p.0.stands.low) in
    (p.1, p.2, ap (λ (k : ℕ). white_at (between a.text.now k a.end)) e ∙ p.0.starts e (omega arith))

pub word_token-read-requires : goal.word_token-read-requires
word_token-read-requires c = (c.word_end-word.ensures.past, omega (arith, c.word_end-word.ensures.closed.high, c.requires.2))

pub settle-requires-2 : goal.settle-requires-2
settle-requires-2 c =
    let a = c.args in
    let s = c.word_token-read.ensures in
    (s.gone.stands, closed_by_lem a.text.now a.end _ _ _ s.gone c.word_end-word.ensures.closed, c.requires.2)

pub returns : goal.returns
returns c =
    let a = c.args in
    let left = c.if-from.false in
    token_first a.text.now a.end a.from c.requires.0 (λ h. absurd (omega arith)) _ c.word_end-word.ensures _ c.word_token-read.ensures _ c.settle-2.ensures
