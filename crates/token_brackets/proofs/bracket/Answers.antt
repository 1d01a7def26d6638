-- `token_brackets::bracket` meets its contract.
use Prim.Native.Nat.{◌+◌, ◌≤◌}
use mathlib.Core.Path.{◌≡◌, sym, ap, ◌∙◌}
use mathlib.Core.Bool.{not}
use native.Mathlib.Omega.{arith}
use lib.Dec.{eqb}
use lib.ListN.{length, get_or}
use Rattle.laws.specs.Spans.{end_of}
use Rattle.standard.specs.Bytes.{is_digit}
use Rattle.token_lexemes.specs.Lexemes.{cut_for}
use Rattle.token_lexemes.proofs.Closed.{to_the_end}
use Rattle.token_lexemes.proofs.Numbered.{bracket_numbered}
use Rattle.token_brackets.proofs.Opened.{is_ending, field_closes, is_field_lem, is_chord}
use Rattle.token_brackets.proofs.bracket.Goals as goal

pub returns-then-is_digit : goal.returns-then-is_digit
returns-then-is_digit c =
    let digit : is_digit (get_or c.args.line.now (c.args.at + 1) 0) ≡ c.is_digit.result = ap is_digit (sym c.byte_at.ensures) ∙ sym c.is_digit.ensures in
    record { token = c.volta.ensures.token ∙ ap (cut_for c.args.at) (is_ending _ c.args.line.now c.args.at (digit ∙ c.if-is_digit.true)); number = bracket_numbered _ _ }

pub is_inline-requires : goal.is_inline-requires
is_inline-requires c =
    let close : c.find-close.result ≡ end_of (λ x. not (eqb x 93)) c.args.line.now (c.args.at + 1) = let h : c.args.at + 1 ≤ length c.args.line.now = omega (arith, c.requires) in
    c.find-close.ensures ∙ to_the_end (λ x. not (eqb x 93)) c.args.line.now (c.args.at + 1) h in
    (omega (arith, c.requires), close)

pub inline_field-requires : goal.inline_field-requires
inline_field-requires c =
    let digit : is_digit (get_or c.args.line.now (c.args.at + 1) 0) ≡ c.is_digit.result = ap is_digit (sym c.byte_at.ensures) ∙ sym c.is_digit.ensures in
    let close : c.find-close.result ≡ end_of (λ x. not (eqb x 93)) c.args.line.now (c.args.at + 1) = let h : c.args.at + 1 ≤ length c.args.line.now = omega (arith, c.requires) in
    c.find-close.ensures ∙ to_the_end (λ x. not (eqb x 93)) c.args.line.now (c.args.at + 1) h in
    let k = close in
    (omega (arith, k), field_closes c.args.edition c.args.line.now c.args.at (digit ∙ c.if-is_digit.false) (sym c.is_inline.ensures ∙ c.if-is_inline.true) _ k)

pub returns-then-is_inline : goal.returns-then-is_inline
returns-then-is_inline c =
    let digit : is_digit (get_or c.args.line.now (c.args.at + 1) 0) ≡ c.is_digit.result = ap is_digit (sym c.byte_at.ensures) ∙ sym c.is_digit.ensures in
    let close : c.find-close.result ≡ end_of (λ x. not (eqb x 93)) c.args.line.now (c.args.at + 1) = let h : c.args.at + 1 ≤ length c.args.line.now = omega (arith, c.requires) in
    c.find-close.ensures ∙ to_the_end (λ x. not (eqb x 93)) c.args.line.now (c.args.at + 1) h in
    record {
      token = c.inline_field.ensures ∙ ap (cut_for c.args.at) (is_field_lem _ c.args.line.now c.args.at (digit ∙ c.if-is_digit.false) (sym c.is_inline.ensures ∙ c.if-is_inline.true) _ close);
      number = bracket_numbered _ _;
    }

pub chord-requires : goal.chord-requires
chord-requires c =
    let close : c.find-close.result ≡ end_of (λ x. not (eqb x 93)) c.args.line.now (c.args.at + 1) = let h : c.args.at + 1 ≤ length c.args.line.now = omega (arith, c.requires) in
    c.find-close.ensures ∙ to_the_end (λ x. not (eqb x 93)) c.args.line.now (c.args.at + 1) h in
    (c.requires, close)

pub returns : goal.returns
returns c =
    let digit : is_digit (get_or c.args.line.now (c.args.at + 1) 0) ≡ c.is_digit.result = ap is_digit (sym c.byte_at.ensures) ∙ sym c.is_digit.ensures in
    record {
      token = c.chord.ensures ∙ ap (cut_for c.args.at) (is_chord _ c.args.line.now c.args.at (digit ∙ c.if-is_digit.false) (sym c.is_inline.ensures ∙ c.if-is_inline.false));
      number = bracket_numbered _ _;
    }
