-- A plain word is one syllable.
use Prim.Native.Nat.{ℕ, ◌-◌, ◌≤◌, ◌<◌}
use mathlib.Core.Path.{◌≡◌, refl, sym, ap, ◌∙◌}
use mathlib.Core.Bool.{Bool, true, false, cond, not, ◌&&◌, ◌||◌}
use mathlib.Core.List.{List}
use native.Mathlib.Omega.{arith}
use lib.Dec.{eqb}
use lib.ListN.{length, get_or}
use borrow.Author.Tests.{eq-eqb, eqb-true, eqb-false, lt-leb}
use Rattle.laws.specs.Spans.{end_in}
use Rattle.laws.proofs.Bools.{by_test, not_true, and_left, and_right, or_no_left, or_no_right}
use Rattle.laws.proofs.Parts.{end_in_ge, end_in_stop, end_in_over}
use Rattle.standard.specs.Bytes.{is}
use Rattle.standard.specs.Lyrics.{syllabic_of}
use Rattle.reader.specs.Text.{is_space}
use Rattle.lyric_spans.specs.Spans.{is_hyphen, is_plain, WordStart, Closed, WordEnd}
use Rattle.lyric_spans.proofs.Plain.{closed_here, plain_le, plain_word, plain_piece, plain_first, plain_last}
use Rattle.lyric_words.specs.declared.Syllabic.TheVariants as S
use Rattle.lyric_words.specs.declared.Cursor.{Cursor}
use Rattle.lyric_words.specs.declared.Read.{Read}
use Rattle.lyric_words.specs.Words.{as_syllabic, is_sign, closed_at, one_syllable, SyllableRead, PlainRead, WordRead, Ready, TokenRead}
use Rattle.lyric_words.proofs.Tokens as tokens
use Rattle.lyric_words.proofs.Tokens.{cursor, read, syllable_at, syllable_last, word_long, word_byte, settle_past, token_first}

-- no hyphen before it, none behind it
syllabic_alone : as_syllabic S.Single ≡ syllabic_of false false
unfolding syllabic_of
syllabic_alone = refl

module _ (text : List ℕ) (end : ℕ) (l : end ≤ length text) (at plain : ℕ) (m : at < end) (e : plain ≡ end_in is_plain text at end) (one : one_syllable text at plain end ≡ true) where
  rest : (closed_at text plain end && not (eqb (plain - at) 1 && is_sign (get_or text at 0))) ≡ true
  rest = and_right (not (eqb plain at)) (closed_at text plain end && not (eqb (plain - at) 1 && is_sign (get_or text at 0))) one

  past : at < plain
  past =
      let d : plain ≡ at → ⊥ = eqb-false plain at (not_true (eqb plain at) (and_left (not (eqb plain at)) (closed_at text plain end && not (eqb (plain - at) 1 && is_sign (get_or text at 0))) one)) in
      omega (arith, d, e, end_in_ge is_plain text at end)

  inside : plain ≤ end
  inside = plain_le text end l at plain m e

  pub plain_closed : Closed text plain end
  plain_closed =
      closed_here text end l plain inside
      (λ h. ap (λ (b : Bool). cond b true (is_space (get_or text plain 0))) (sym (lt-leb end plain h))
      ∙ and_left (closed_at text plain end) (not (eqb (plain - at) 1 && is_sign (get_or text at 0))) rest)

  -- no hyphen in it
  starts : is_hyphen (get_or text at 0) ≡ false
  starts = not_true (is_hyphen (get_or text at 0)) (plain_first text end l at plain m e past)

  ends : is_hyphen (get_or text (plain - 1) 0) ≡ false
  ends = not_true (is_hyphen (get_or text (plain - 1) 0)) (plain_last text end l at plain m e past)

  abbrev syllable : Read
  syllable = read (syllable_at at plain S.Single) (cursor plain plain true false)

  syllable_read : SyllableRead text (cursor at plain false false) syllable
  syllable_read =
      syllable_last text at plain false false plain plain S.Single past (omega (arith, inside)) starts (sym (plain_piece text end l at plain m e (omega (arith, past))))
      (sym (end_in_over is_hyphen text plain plain (omega arith))) (λ h. absurd (omega arith)) syllabic_alone

  plain_read : PlainRead text at plain syllable
  plain_read =
      tokens.plain_first text at plain past (omega (arith, inside)) at (sym (end_in_stop is_hyphen text at plain past (omega (arith, inside)) starts)) past syllable
      (rw (starts, ends) syllable_read)

  -- none of the signs
  no_sign : plain - at ≡ 1 → is_sign (get_or text at 0) ≡ false
  no_sign n =
      ap (λ (b : Bool). b && is_sign (get_or text at 0)) (sym (eq-eqb (plain - at) 1 n))
      ∙ not_true (eqb (plain - at) 1 && is_sign (get_or text at 0)) (and_right (closed_at text plain end) (not (eqb (plain - at) 1 && is_sign (get_or text at 0))) rest)

  word_read : WordRead text at plain syllable
  word_read =
      by_test (eqb (plain - at) 1)
      (λ t.
      let n = eqb-true (plain - at) 1 t in
      let b = get_or text at 0 in
      let two = or_no_right (is "|" b) (is "*" b || is "_" b) (no_sign n) in
      word_byte text at plain past (omega (arith, inside)) n (eqb-false b 124 (or_no_left (is "|" b) (is "*" b || is "_" b) (no_sign n))) (eqb-false b 42 (or_no_left (is "*" b) (is "_" b) two)) (eqb-false b 95 (or_no_right (is "*" b) (is "_" b) two)) syllable plain_read)
      (λ t. word_long text at plain past (omega (arith, inside)) (eqb-false (plain - at) 1 t) syllable plain_read)

  word_is : WordEnd text at end plain
  word_is = plain_word text end l at plain m e past plain_closed

  -- A PLAIN WORD at a cursor
  pub token_plain : (c : Cursor) → c.at ≡ at → Ready text end c → (c.at < c.word → ⊥) → (r : ℕ) → WordStart text plain end r → TokenRead text end c (read (syllable_at at plain S.Single) (cursor r r false false))
  token_plain c f i h r w =
      token_first text end c i h plain (rw f word_is) syllable (rw f word_read) (cursor r r false false)
      (settle_past text end (cursor plain plain true false) word_read.gone.stands plain_closed (λ k. absurd (omega arith)) r w)
