-- The search answers the same in every order that has each of the ten values: the longest of the forty that fits. So the search from the eighth answers what the
-- search from the longa answers.
use Prim.Native.Nat.{ℕ, zero, suc, ◌+◌, ◌*◌, ◌≤◌, ◌<◌}
use mathlib.Core.Path.{◌≡◌, refl, sym, ap, subst, ◌∙◌}
use mathlib.Core.Bool.{true, false, ◌||◌, false≢true}
use mathlib.Core.Option.{Option, none, some}
use mathlib.Core.List.{List, [], ◌∷◌}
use native.Mathlib.Nat.{mul-zero, le_of_mul-le-mul_right}
use native.Mathlib.Omega.{arith}
use lib.Dec.{ltb, eqb}
use lib.ListN.{get_or, take, drop}
use borrow.Author.Tests.{ltb-true, ltb-false, eqb-true, eqb-false, eq-eqb}
use Rattle.laws.specs.Lists.{all, any, all_below}
use Rattle.laws.proofs.Bools.{by_test, and_left, and_right, or_true}
use Rattle.laws.proofs.Finite.{below}
use Rattle.laws.proofs.Lists.{any_append}
use Rattle.standard.specs.Lengths.{Fraction, length_fraction, Value, ticks, ten_values}
use Rattle.reader.specs.Lengths.{longa, written_as}
use Rattle.reader.specs.Search.{longer, tried, dots_up, in_order, or_quarter, search_in, from_longa, outward, each_nearer, is_usual, each_of_ten, limit_of, from_eighth}
use Rattle.reader.proofs.ValueLaws.{written, is_written, is_written_lem, is_one, one_range, written_fits, written_short, written_range, written_zero, written_nothing, one_size}

-- A SEARCH for a / b 1024ths of a whole note, not 0/0
module _ (a b : ℕ) (some_length : a ≡ 0 → b ≡ 0 → ⊥) where
  -- what is found is one of the forty, and fits
  abbrev Good : Option Value → Type 0
  Good none = Unit {0}
  Good (some w) = (is_one w ≡ true) × (ticks w * b ≤ a)

  -- something of the size s, or longer, is found
  abbrev Reaches : ℕ → Option Value → Type 0
  Reaches s none = ⊥
  Reaches s (some w) = s ≤ ticks w

  -- values tried after `best` leave r: it fits, is no shorter than `best`, and no shorter than any of the values that fits
  record Tried (ws : List Value) (best r : Option Value) : Type 0 where
    good : Good r
    keeps : (s : ℕ) → Reaches s best → Reaches s r
    longest : (v d : ℕ) → any (is_written v d) ws ≡ true → ticks (written v d) * b ≤ a → Reaches (ticks (written v d)) r

  good_longer : (best : Option Value) (w : Value) → Good best → is_one w ≡ true → ticks w * b ≤ a → Good (some (longer best w))
  unfolding longer
  good_longer none w g p f = (p, f)
  good_longer (some x) w g p f = by_test (ltb (ticks x) (ticks w)) (λ e. rw e (p, f)) (λ e. rw e g)

  reach_best : (s : ℕ) (best : Option Value) (w : Value) → Reaches s best → Reaches s (some (longer best w))
  unfolding longer
  reach_best s none w h = absurd h
  reach_best s (some x) w h = by_test (ltb (ticks x) (ticks w)) (λ e. rw e (omega (arith, ltb-true (ticks x) (ticks w) e))) (λ e. rw e h)

  reach_new : (best : Option Value) (w : Value) → Reaches (ticks w) (some (longer best w))
  unfolding longer
  reach_new none w = omega arith
  reach_new (some x) w = by_test (ltb (ticks x) (ticks w)) (λ e. rw e (omega arith)) (λ e. rw e (ltb-false (ticks x) (ticks w) e))

  -- a value that meets the length is as long as any that fits
  meets : (w : Value) (ws : List Value) (best : Option Value) → Good best → is_one w ≡ true → ticks w * b ≡ a → Tried (w ∷ ws) best (some w)
  meets w ws best g p e =
      let parts : 0 < b =
      by_test (eqb b 0) (λ z. let n : b ≡ 0 = eqb-true b 0 z in absurd (some_length (sym e ∙ ap (λ x. ticks w * x) n ∙ mul-zero (ticks w)) n))
      (λ z. omega (arith, eqb-false b 0 z)) in
      record { good = (p, omega arith); keeps = kept best g parts; longest = λ v d m f. le_of_mul-le-mul_right (rw e f) parts }
    where
      kept : (x : Option Value) → Good x → 0 < b → (s : ℕ) → Reaches s x → s ≤ ticks w
      kept none gx parts s h = absurd h
      kept (some x) gx parts s h = let up : ticks x ≤ ticks w = le_of_mul-le-mul_right (rw e gx.1) parts in omega arith

  tried_all : (ws : List Value) (best : Option Value) → all is_one ws ≡ true → Good best → Tried ws best (tried ws a b best)
  unfolding tried
  tried_all [] best o g = record { good = g; keeps = λ s h. h; longest = λ v d e f. absurd (false≢true e) }
  tried_all (w ∷ ws) best o g =
      let p = and_left (is_one w) (all is_one ws) o in
      let ps = and_right (is_one w) (all is_one ws) o in
      by_test (eqb (ticks w * b) a)
      (λ e. rw (e, tried) (meets w ws best g p (eqb-true _ _ e)))
      (λ e. rw (e, tried) (by_test (ltb (ticks w * b) a)
      (λ q. rw q (let less : ticks w * b < a = ltb-true _ _ q in
      let r = tried_all ws (some (longer best w)) ps (good_longer best w g p (omega arith)) in
      record {
        good = r.good;
        keeps = λ s h. r.keeps s (reach_best s best w h);
        longest = λ v d m f. by_test (is_written v d w)
            (λ i. r.keeps _ (subst (λ (x : Value). Reaches (ticks x) (some (longer best w))) (is_written_lem v d w i) (reach_new best w)))
            (λ i. r.longest v d (rw i at m) f);
      }))
      (λ q. rw q (let r = tried_all ws best ps g in
      record {
        good = r.good;
        keeps = r.keeps;
        longest = λ v d m f. by_test (is_written v d w)
            (λ i. let fits : ticks w * b ≤ a = subst (λ (x : Value). ticks x * b ≤ a) (sym (is_written_lem v d w i)) f in
            let same : ticks w * b ≡ a = omega (arith, ltb-false (ticks w * b) a q) in
            absurd (eqb-false (ticks w * b) a e same))
            (λ i. r.longest v d (rw i at m) f);
      }))))

-- AN ORDER that has each of the ten values, and no other: so with their dots each of the forty, and no other
all_ones : (order : List ℕ) → all (λ v. ltb v 10) order ≡ true → all is_one (in_order order) ≡ true
unfolding in_order
all_ones [] e = refl
all_ones (v ∷ vs) e =
    let rest = all_ones vs (and_right (ltb v 10) (all (λ v. ltb v 10) vs) e) in
    rw (and_left (ltb v 10) (all (λ v. ltb v 10) vs) e, rest)

-- each number of dots
with_dots_lem : (v d : ℕ) → d < 4 → any (is_written v d) (dots_up v) ≡ true
with_dots_lem v d h = rw (eq-eqb v v refl) (below 4 (λ d. eqb 0 d || (eqb 1 d || (eqb 2 d || (eqb 3 d || false)))) refl d h)

one_of : (v d : ℕ) (order : List ℕ) → d < 4 → any (eqb v) order ≡ true → any (is_written v d) (in_order order) ≡ true
unfolding in_order
one_of v d [] h e = absurd (false≢true e)
one_of v d (x ∷ xs) h e =
    any_append (is_written v d) (dots_up x) (in_order xs)
    ∙ by_test (eqb v x) (λ q. rw (sym (eqb-true v x q), with_dots_lem v d h)) (λ q. rw (one_of v d xs h (rw q at e), or_true))

shortest : ticks (written 9 0) ≡ 8
unfolding ticks
shortest = refl

-- EVERY ORDER gives the reader's written value, of every length but 0/0
module _ (order : List ℕ) (each : each_of_ten order ≡ true) (f : Fraction) (not_both : 0 < f.over + f.under) where
  in_order_lem : (v d : ℕ) → v < 10 → d < 4 → any (is_written v d) (in_order order) ≡ true
  in_order_lem v d hv hd =
      one_of v d order hd (below 10 (λ v. any (eqb v) order) (and_right (all (λ v. ltb v 10) order) (all_below 10 (λ v. any (eqb v) order)) each) v hv)

  abbrev some_length : f.over * 1024 ≡ 0 → f.under ≡ 0 → ⊥
  some_length p q = omega arith

  decided : (r : Option Value) → Tried (f.over * 1024) f.under some_length (in_order order) none r → or_quarter r ≡ written_as f
  decided none h =
      by_test (ltb (f.over * 1024) (8 * f.under)) (λ e. sym (written_short f (ltb-true _ _ e)))
      (λ e. let fits : ticks (written 9 0) * f.under ≤ f.over * 1024 = rw shortest (ltb-false _ _ e) in
      absurd (h.longest 9 0 (in_order_lem 9 0 (omega arith) (omega arith)) fits))
  decided (some x) h =
      let (hv, hd) = one_range x h.good.0 in
      let n = written_as f in
      let (rv, rd) = written_range f in
      let (fits, up) = written_fits f x.value x.dots not_both hv hd h.good.1 in
      let back : ticks n ≤ ticks x = h.longest n.value n.dots (in_order_lem n.value n.dots rv rd) fits in
      one_size x.value x.dots n.value n.dots hv hd rv rd (omega arith)

  pub any_order : search_in order f ≡ written_as f
  unfolding search_in
  any_order = decided _ (tried_all (f.over * 1024) f.under some_length (in_order order) none
      (all_ones order (and_left (all (λ v. ltb v 10) order) (all_below 10 (λ v. any (eqb v) order)) each)) tt)

-- 000's order, of every length: 0/0 meets the plain longa at once
longa_at : (num parts : ℕ) → from_longa (record { over = num; under = parts }) ≡ written_as (record { over = num; under = parts })
unfolding from_longa search_in tried in_order ten_values ticks written_as
longa_at zero zero = refl
longa_at (suc n) parts = any_order ten_values refl (record { over = suc n; under = parts }) (omega arith)
longa_at zero (suc p) = any_order ten_values refl (record { over = zero; under = suc p }) (omega arith)

pub longa_as_written : (f : Fraction) → from_longa f ≡ written_as f
longa_as_written f = longa_at f.over f.under

-- what no search decides is so; else there is some length over some parts
pub limit_is : (f : Fraction) (w : Value) → limit_of f ≡ some w → written_as f ≡ w
unfolding limit_of
limit_is f w e = go f.over f.under e
  where
    go : (n p : ℕ) → limit_of (record { over = n; under = p }) ≡ some w → written_as (record { over = n; under = p }) ≡ w
    go zero zero e = written_nothing ∙ ap or_quarter e
    go (suc n) zero e = written_zero n ∙ ap or_quarter e
    go zero (suc p) e = written_short (record { over = zero; under = suc p }) (omega arith) ∙ ap or_quarter e
    go (suc n) (suc p) e = cc

pub limit_none : (f : Fraction) → limit_of f ≡ none → (0 < f.over) × (0 < f.under)
unfolding limit_of
limit_none f e = go f.over f.under e
  where
    go : (n p : ℕ) → limit_of (record { over = n; under = p }) ≡ none → (0 < n) × (0 < p)
    go zero zero e = let no : ◌≡◌ {A = ℕ} 0 1 = cc in absurd (omega arith)
    go (suc n) zero e = let no : ◌≡◌ {A = ℕ} 0 1 = cc in absurd (omega arith)
    go zero (suc p) e = let no : ◌≡◌ {A = ℕ} 0 1 = cc in absurd (omega arith)
    go (suc n) (suc p) e = (omega arith, omega arith)

pub outward_as_written : (f : Fraction) → 0 < f.over + f.under → search_in outward f ≡ written_as f
outward_as_written f = any_order outward refl f

pub eighth_as_written : (f : Fraction) → from_eighth f ≡ written_as f
unfolding from_eighth
eighth_as_written f = go (limit_of f) refl
  where
    go : (x : Option Value) → limit_of f ≡ x → elim x [ none ↦ search_in outward f | some w ↦ w ] ≡ written_as f
    go none e = let (n, p) = limit_none f e in outward_as_written f (omega arith)
    go (some w) e = sym (limit_is f w e)

-- T-05: "For every numerator, denominator and unit it is proved to answer what the search from the longa answers."
pub outward_as_longa : (unit num den : ℕ) → from_eighth (length_fraction unit num den) ≡ from_longa (length_fraction unit num den)
outward_as_longa unit num den = eighth_as_written (length_fraction unit num den) ∙ sym (longa_as_written (length_fraction unit num den))

-- why 0/0 is decided before the search: every value meets it, and the search answers the one that it begins with
pub where_they_part : (from_longa (record { over = 0; under = 0 }) ≡ longa) × (search_in outward (record { over = 0; under = 0 }) ≡ written 5 0)
unfolding from_longa search_in tried in_order ten_values ticks
where_they_part = (refl, refl)

-- THE ORDER'S WORDS: "begin at the eighth and work outward, the longer of two equally far first"
pub outward_from_eighth : (get_or outward 0 0 ≡ 5) × (each_nearer outward ≡ true)
outward_from_eighth = (refl, refl)

-- "so that the sixteen values from a half to a sixteenth are tried before all others"
pub usual_first : (all is_usual (take 16 (in_order outward)) ≡ true) × (any is_usual (drop 16 (in_order outward)) ≡ false)
unfolding in_order
usual_first = (refl, refl)
