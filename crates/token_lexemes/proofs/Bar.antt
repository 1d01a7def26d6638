-- Barlines, and whether a measure opens behind them.
use Prim.Native.Nat.{ℕ, ◌+◌}
use mathlib.Core.Path.{◌≡◌, refl, sym, ap, ◌∙◌}
use mathlib.Core.Bool.{not}
use mathlib.Core.Option.{Option, none, some}
use mathlib.Core.List.{List}
use native.Mathlib.Omega.{arith}
use lib.Dec.{eqb}
use lib.ListN.{length, get_or, drop}
use Rattle.laws.proofs.Lists.{first_on}
use Rattle.standard.specs.Bars.{Symbol, bar_symbols, symbol_at}
use Rattle.reader.specs.Barlines.{left_of, barline_as, barline_of}
use Rattle.std.specs.Prelude as code
use Rattle.text_bytes.specs.declared.Read.{Read}
use Rattle.token_symbols.specs.Bars.{barline_for, bar_read, bar_for}
use Rattle.token_symbols.specs.declared.Barline.{Barline}
use Rattle.token_symbols.specs.declared.Bar.{Bar}
use Rattle.token_lexemes.specs.Lexemes.{lexeme_for, cut_for}
use Rattle.token_lexemes.specs.declared.Token.TheVariants as lexeme

module _ (line : List ℕ) (at : ℕ) where
  none_by : (o : Option Symbol) → bar_for at o ≡ code.None → record { value = lexeme.Skipped; next = at + 1 } ≡ cut_for at (barline_as (drop at line) o)
  unfolding barline_as lexeme_for
  none_by none e = refl
  none_by (some x) e = let z : ◌≡◌ {A = ℕ} 0 1 = cc in absurd (omega arith)

  one_by : (o : Option Symbol) (r l : Barline) (n : ℕ) → bar_for at o ≡ bar_read r l n
      → record { value = lexeme.Barline r l (not (eqb (get_or line n 0) 93)); next = n } ≡ cut_for at (barline_as (drop at line) o)
  unfolding barline_as lexeme_for
  one_by none r l n e = let z : ◌≡◌ {A = ℕ} 0 1 = cc in absurd (omega arith)
  one_by (some x) r l n e =
      let q : ◌≡◌ {A = Read Bar} (record { value = record { right = r; left = l }; next = n }) (record { value = record { right = barline_for x.barline; left = barline_for (left_of x.barline) }; next = at + length x.text }) = cc in
      let a : r ≡ barline_for x.barline = ap (λ (y : Read Bar). y.value.right) q in
      let d : l ≡ barline_for (left_of x.barline) = ap (λ (y : Read Bar). y.value.left) q in
      let m : n ≡ at + length x.text = ap (λ (y : Read Bar). y.next) q in
      let f : get_or line n 0 ≡ get_or (drop (length x.text) (drop at line)) 0 0 = ap (λ k. get_or line k 0) m ∙ sym (first_on line at (length x.text)) in
      λ j. record { value = lexeme.Barline (a j) (d j) (not (eqb (f j) 93)); next = m j }

  pub no_bar_lem : bar_for at (symbol_at bar_symbols (drop at line)) ≡ code.None → record { value = lexeme.Skipped; next = at + 1 } ≡ cut_for at (barline_of (drop at line))
  unfolding barline_of
  no_bar_lem e = none_by (symbol_at bar_symbols (drop at line)) e

  pub bar_is_read : (r l : Barline) (n : ℕ) → bar_for at (symbol_at bar_symbols (drop at line)) ≡ bar_read r l n
      → record { value = lexeme.Barline r l (not (eqb (get_or line n 0) 93)); next = n } ≡ cut_for at (barline_of (drop at line))
  unfolding barline_of
  bar_is_read r l n e = one_by (symbol_at bar_symbols (drop at line)) r l n e
