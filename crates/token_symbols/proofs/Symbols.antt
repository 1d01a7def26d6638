-- The bar symbol at the front, by its first two bytes; barlines as the code has them.
use Prim.Native.Nat.{ℕ}
use mathlib.Core.Path.{◌≡◌, refl, sym, ◌∙◌}
use mathlib.Core.Bool.{true, false}
use mathlib.Core.Option.{none, some}
use mathlib.Core.List.{List, [], ◌∷◌}
use lib.Dec.{eqb}
use borrow.Author.Tests.{eq-eqb, ne_eqb, eqb-false}
use Rattle.laws.specs.Lists.{starts_with}
use Rattle.laws.proofs.Bools.{and_true}
use Rattle.standard.specs.Bytes.{first}
use Rattle.standard.specs.Bars.{Barline, symbol, symbol_at, bar_symbols, normal, repeat_start, repeat_end, repeat_both, double, final}
use Rattle.token_symbols.specs.Bars.{barline_for, as_barline}

-- the code's barline for one of the definition's stands for that one
pub as_for : (b : Barline) → as_barline (barline_for b) ≡ b
as_for normal = refl
as_for repeat_start = refl
as_for repeat_end = refl
as_for repeat_both = refl
as_for double = refl
as_for final = refl

-- a text of one byte, which is not 0
starts_one : (p : ℕ) (s : List ℕ) → eqb p 0 ≡ false → starts_with (p ∷ []) s ≡ eqb p (first s)
starts_one p [] n = sym n
starts_one p (c ∷ s) n = and_true (eqb p c)

module _ (s : List ℕ) where
  yes : (p : ℕ) → eqb p 0 ≡ false → first s ≡ p → starts_with (p ∷ []) s ≡ true
  yes p n e = starts_one p s n ∙ eq-eqb p (first s) (sym e)

  no : (p : ℕ) → eqb p 0 ≡ false → (first s ≡ p → ⊥) → starts_with (p ∷ []) s ≡ false
  no p n e = starts_one p s n ∙ ne_eqb p (first s) (λ k. e (sym k))

  pub start_symbol : first s ≡ 58 → symbol_at bar_symbols (124 ∷ s) ≡ some (symbol "|:" repeat_start)
  unfolding symbol_at bar_symbols
  start_symbol e = rw (yes 58 refl e, symbol_at)

  pub double_symbol : (first s ≡ 58 → ⊥) → first s ≡ 124 → symbol_at bar_symbols (124 ∷ s) ≡ some (symbol "||" double)
  unfolding symbol_at bar_symbols
  double_symbol a e = rw (no 58 refl a, symbol_at) (rw (yes 124 refl e))

  pub final_symbol : (first s ≡ 58 → ⊥) → (first s ≡ 124 → ⊥) → first s ≡ 93 → symbol_at bar_symbols (124 ∷ s) ≡ some (symbol "|]" final)
  unfolding symbol_at bar_symbols
  final_symbol a b e = rw (no 58 refl a, symbol_at) (rw (no 124 refl b) (rw (yes 93 refl e)))

  pub normal_symbol : (first s ≡ 58 → ⊥) → (first s ≡ 124 → ⊥) → (first s ≡ 93 → ⊥) → symbol_at bar_symbols (124 ∷ s) ≡ some (symbol "|" normal)
  unfolding symbol_at bar_symbols
  normal_symbol a b d = rw (no 58 refl a, symbol_at) (rw (no 124 refl b) (rw (no 93 refl d)))

  pub end_symbol : first s ≡ 124 → symbol_at bar_symbols (58 ∷ s) ≡ some (symbol ":|" repeat_end)
  unfolding symbol_at bar_symbols
  end_symbol e = rw (yes 124 refl e, symbol_at)

  pub both_symbol : (first s ≡ 124 → ⊥) → first s ≡ 58 → symbol_at bar_symbols (58 ∷ s) ≡ some (symbol "::" repeat_both)
  unfolding symbol_at bar_symbols
  both_symbol a e = rw (no 124 refl a, symbol_at) (rw (yes 58 refl e))

  pub colon_symbol : (first s ≡ 124 → ⊥) → (first s ≡ 58 → ⊥) → symbol_at bar_symbols (58 ∷ s) ≡ none
  unfolding symbol_at bar_symbols
  colon_symbol a b = rw (no 124 refl a, symbol_at) (rw (no 58 refl b))

  pub other_symbol : (c : ℕ) → (c ≡ 124 → ⊥) → (c ≡ 58 → ⊥) → symbol_at bar_symbols (c ∷ s) ≡ none
  unfolding symbol_at bar_symbols
  other_symbol c a b =
      let x : eqb 124 c ≡ false = ne_eqb 124 c (λ k. a (sym k)) in
      let y : eqb 58 c ≡ false = ne_eqb 58 c (λ k. b (sym k)) in
      rw (x, symbol_at) (rw x (rw x (rw y (rw y (rw x)))))

-- a byte that is one is not another
pub other_than : (x a b : ℕ) → eqb a b ≡ false → x ≡ a → x ≡ b → ⊥
other_than x a b n p q = eqb-false a b n (sym p ∙ q)
