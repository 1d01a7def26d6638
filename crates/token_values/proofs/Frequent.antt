-- The frequent values before the search: what a test of each in turn finds is the reader's written value.
use Prim.Native.Nat.{ℕ, ◌*◌, ◌<◌}
use mathlib.Core.Path.{◌≡◌, refl}
use mathlib.Core.Bool.{true}
use mathlib.Core.Option.{Option, none, some}
use mathlib.Core.List.{List, [], ◌∷◌}
use lib.Dec.{eqb}
use borrow.Author.Tests.{eqb-true, eq-eqb, ne_eqb}
use Rattle.laws.specs.Lists.{all}
use Rattle.laws.proofs.Bools.{by_test, and_left, and_right}
use Rattle.standard.specs.Lengths.{Fraction, Value, ticks}
use Rattle.reader.specs.Lengths.{written_as}
use Rattle.reader.proofs.ValueLaws.{is_one, one_range, written_met}
use Rattle.reader.specs.Search.{is_usual}
use Rattle.token_values.specs.Found.{first_exact, frequent, frequent_of}

module _ (w : Value) (ws : List Value) (a b : ℕ) where
  -- the first meets the length
  pub exact_first : ticks w * b ≡ a → some w ≡ first_exact (w ∷ ws) a b
  unfolding first_exact
  exact_first e = rw (eq-eqb _ _ e, first_exact)

  -- it does not
  pub exact_later : (ticks w * b ≡ a → ⊥) → first_exact ws a b ≡ first_exact (w ∷ ws) a b
  unfolding first_exact
  exact_later n = rw (ne_eqb _ _ n, first_exact)

-- one that is met is one of the forty, and has the length
abbrev Met : ℕ → ℕ → Option Value → Type 0
Met a b none = Unit {0}
Met a b (some w) = (is_one w ≡ true) × (ticks w * b ≡ a)

first_exact_lem : (ws : List Value) (a b : ℕ) → all is_one ws ≡ true → Met a b (first_exact ws a b)
unfolding first_exact
first_exact_lem [] a b o = tt
first_exact_lem (w ∷ ws) a b o =
    by_test (eqb (ticks w * b) a)
    (λ e. rw (e, first_exact) (and_left (is_one w) (all is_one ws) o, eqb-true _ _ e))
    (λ e. rw (e, first_exact) (first_exact_lem ws a b (and_right (is_one w) (all is_one ws) o)))

-- it is the reader's
pub frequent_is : (f : Fraction) (w : Value) → 0 < f.under → frequent_of f ≡ some w → written_as f ≡ w
unfolding frequent_of
frequent_is f w parts e =
    let (one, met) : Met (f.over * 1024) f.under (some w) = rw e at (first_exact_lem frequent (f.over * 1024) f.under refl) in
    let (hv, hd) = one_range w one in
    written_met f w.value w.dots parts hv hd met

-- they are of the sixteen that are tried before all others
pub frequent_usual : all is_usual frequent ≡ true
frequent_usual = refl
