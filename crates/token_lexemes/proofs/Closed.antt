-- Quotes, decorations and broken rhythm, by position.
use Prim.Native.Nat.{ℕ, suc, ◌+◌, ◌-◌, ◌≤◌, ◌<◌}
use mathlib.Core.Path.{◌≡◌, sym, ap, ◌∙◌}
use mathlib.Core.Bool.{Bool, not}
use mathlib.Core.List.{List}
use native.Mathlib.Omega.{arith}
use lib.Dec.{eqb}
use lib.ListN.{length, drop, length-drop}
use lib.Seq.{drop-drop}
use borrow.Author.Tests.{lt-ltb, le-ltb}
use Rattle.laws.specs.Lists.{count_while}
use Rattle.laws.specs.Spans.{end_of, end_in}
use Rattle.laws.proofs.Spans.{end_le}
use Rattle.laws.proofs.Parts.{end_in_end_of}
use Rattle.reader.specs.Token.{Token, Taken}
use Rattle.reader.specs.Tokens.{closed_by, broken_of}
use Rattle.refusals.specs.declared.Refusal.{Refusal}
use Rattle.token_lexemes.specs.Lexemes.{lexeme_for, cut_for}
use Rattle.token_lexemes.specs.declared.Token.TheVariants.{Broken, Refused}

-- a search to the line's end
pub to_the_end : (p : ℕ → Bool) (line : List ℕ) (from : ℕ) → from ≤ length line → end_in p line from (length line) ≡ end_of p line from
to_the_end p line from h = omega (arith, end_in_end_of p line from (length line) h, end_le p line from h)

module _ (line : List ℕ) (at b close : ℕ) (h : at < length line) (k : close ≡ end_in (λ c. not (eqb c b)) line (at + 1) (length line)) (t : Token) (other : Taken) where
  -- the bytes before the closing one
  inside : close ≡ at + 1 + count_while (λ c. not (eqb c b)) (drop 1 (drop at line))
  inside = k ∙ to_the_end (λ c. not (eqb c b)) line (at + 1) (omega arith) ∙ ap (λ s. at + 1 + count_while (λ c. not (eqb c b)) s) (sym (drop-drop 1 at line))

  left : length (drop 1 (drop at line)) ≡ length line - (at + 1)
  left = ap length (drop-drop 1 at line) ∙ length-drop (at + 1) line

  pub closed : close < length line → record { value = lexeme_for at t; next = close + 1 } ≡ cut_for at (closed_by (λ c. eqb c b) t (drop 1 (drop at line)) other)
  unfolding closed_by
  closed l =
      let q : count_while (λ c. not (eqb c b)) (drop 1 (drop at line)) < length (drop 1 (drop at line)) = omega (arith, inside, left) in
      let n : close + 1 ≡ at + (2 + count_while (λ c. not (eqb c b)) (drop 1 (drop at line))) = omega (arith, inside) in
      rw (lt-ltb _ _ q, closed_by) (rw n)

  pub unclosed : length line ≤ close → cut_for at other ≡ cut_for at (closed_by (λ c. eqb c b) t (drop 1 (drop at line)) other)
  unfolding closed_by
  unclosed l =
      let q : length (drop 1 (drop at line)) ≤ count_while (λ c. not (eqb c b)) (drop 1 (drop at line)) = omega (arith, inside, left) in
      rw (le-ltb _ _ q, closed_by)

-- BROKEN RHYTHM
module _ (line : List ℕ) (at b end : ℕ) (up : Bool) (h : at < length line) (k : end ≡ end_of (λ c. eqb c b) line (at + 1)) where
  signs : suc (count_while (λ c. eqb c b) (drop 1 (drop at line))) ≡ end - at
  signs = let e : count_while (λ c. eqb c b) (drop 1 (drop at line)) ≡ count_while (λ c. eqb c b) (drop (at + 1) line) = ap (count_while (λ c. eqb c b)) (drop-drop 1 at line) in omega (arith, e, k)

  pub too_many : 255 < end - at → record { value = Refused Refusal.BrokenRhythm; next = length line } ≡ cut_for at (broken_of up (suc (count_while (λ c. eqb c b) (drop 1 (drop at line)))) (drop at line))
  unfolding broken_of lexeme_for
  too_many l =
      let n : length line ≡ at + length (drop at line) = omega (arith, length-drop at line) in
      rw signs (rw (lt-ltb _ _ l, broken_of) (rw n))

  pub not_too_many : end - at ≤ 255 → record { value = Broken up (end - at); next = end } ≡ cut_for at (broken_of up (suc (count_while (λ c. eqb c b) (drop 1 (drop at line)))) (drop at line))
  unfolding broken_of lexeme_for
  not_too_many l =
      let n : at + (end - at) ≡ end = omega (arith, k) in
      rw signs (rw (le-ltb _ _ l, broken_of) (rw n))
