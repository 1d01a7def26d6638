-- The tests of a `[` in turn, by position.
use Prim.Native.Nat.{ℕ, ◌+◌, ◌-◌, ◌<◌}
use mathlib.Core.Path.{◌≡◌, sym, ap, ◌∙◌}
use mathlib.Core.Bool.{true, false, not}
use mathlib.Core.List.{List}
use native.Mathlib.Omega.{arith}
use lib.Dec.{eqb}
use lib.ListN.{length, get_or, drop, length-drop}
use lib.Seq.{drop-drop}
use borrow.Author.Tests.{ltb-true}
use Rattle.laws.specs.Lists.{count_while}
use Rattle.laws.specs.Bytes.{between, part}
use Rattle.laws.specs.Spans.{end_of}
use Rattle.laws.proofs.Bools.{and_left}
use Rattle.laws.proofs.Lists.{first_at}
use Rattle.standard.specs.Bytes.{is_digit}
use Rattle.editions.specs.declared.Edition.{Edition}
use Rattle.reader.specs.Token.{Token, taken}
use Rattle.reader.specs.PassLists.{volta_of}
use Rattle.reader.specs.Inline.{field_token, is_inline, inline_at}
use Rattle.reader.specs.Sounds.{chord_at}
use Rattle.reader.specs.Tokens.{bracket_of, bracket, token_as}
use Rattle.field_values.specs.Values as fields
use Rattle.std.specs.Prelude.{Err}
use Rattle.refusals.specs.declared.Refusal.{Refusal}
use Rattle.token_suffixes.specs.declared.Fraction.{Fraction}
use Rattle.token_lexemes.specs.declared.Token as code
use Rattle.token_lexemes.specs.declared.Token.TheVariants as code-token
use Rattle.token_lexemes.proofs.Refusals.{refusal_back}
use Rattle.token_lexemes.specs.Lexemes.{lexeme_for, cut_for}

-- a field by its token, or its refusal
pub field_cut : (at close : ℕ) → at < close → (x : code.Token Fraction) (t : Token) → x ≡ lexeme_for at t → record { value = x; next = close + 1 } ≡ cut_for at (taken t (close + 1 - at))
field_cut at close h x t e = let n : close + 1 ≡ at + (close + 1 - at) = omega arith in λ j. record { value = e j; next = n j }

pub refused_cut : (at : ℕ) (r : Refusal) → code-token.Refused r ≡ lexeme_for at (fields.token_as (Err r))
unfolding lexeme_for
refused_cut at r = ap code-token.Refused (sym (refusal_back r))

module _ (ed : Edition) (line : List ℕ) (at : ℕ) where
  behind : drop 1 (drop at line) ≡ drop (at + 1) line
  behind = drop-drop 1 at line

  -- a digit
  pub is_ending : is_digit (get_or line (at + 1) 0) ≡ true → volta_of (drop (at + 1) line) ≡ token_as ed bracket (drop at line)
  unfolding token_as bracket_of
  is_ending d = rw behind (rw (ap is_digit (first_at line (at + 1)) ∙ d, bracket_of))

  module _ (d : is_digit (get_or line (at + 1) 0) ≡ false) where
    -- a field
    module _ (i : is_inline (drop (at + 1) line) ≡ true) (close : ℕ) (k : close ≡ end_of (λ c. not (eqb c 93)) line (at + 1)) where
      pub field_closes : close < length line
      unfolding is_inline
      field_closes =
          let n = count_while (λ c. not (eqb c 93)) (drop (at + 1) line) in
          let l : n < length (drop (at + 1) line) = ltb-true _ _ (and_left _ _ (and_left _ _ i)) in
          omega (arith, length-drop (at + 1) line, k)

      pub is_field_lem : taken (field_token ed (between line (at + 1) close)) (close + 1 - at) ≡ token_as ed bracket (drop at line)
      unfolding token_as bracket_of inline_at part
      is_field_lem =
          let n : close + 1 - at ≡ 2 + count_while (λ c. not (eqb c 93)) (drop (at + 1) line) = omega (arith, k) in
          let m : close - (at + 1) ≡ count_while (λ c. not (eqb c 93)) (drop (at + 1) line) = omega (arith, k) in
          rw behind (rw (ap is_digit (first_at line (at + 1)) ∙ d, bracket_of) (rw (i, n, m)))

    -- a chord
    pub is_chord : is_inline (drop (at + 1) line) ≡ false → chord_at ed (drop (at + 1) line) ≡ token_as ed bracket (drop at line)
    unfolding token_as bracket_of
    is_chord i = rw behind (rw (ap is_digit (first_at line (at + 1)) ∙ d, bracket_of) (rw i))
